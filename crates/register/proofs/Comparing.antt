-- What the search over pairs gives, as comparing goes through it.
use Rattle.std.proofs.Common.{◌≡◌, ℕ, ◌<◌, Bool, true, false, cond, not, subst, List, [], ◌∷◌, ◌++◌, length, None, Some, refl, sym, ap, ◌∙◌}
use Rattle.std.specs.Bool.{beq}
use Rattle.std.proofs.lemmas.Bool.{not-false}
use Rattle.std.proofs.lemmas.List.Sums.{fold-append}
use Rattle.automaton.specs.Automata.{Automaton}
use Rattle.automaton.specs.Words.{walk}
use Rattle.explore.specs.declared.pair_cell.PairCell.{PairCell}
use Rattle.explore.specs.Search.{searched}
use Rattle.explore.proofs.Tracked.{Faithful, Tracked, tracked}
use Rattle.register.specs.Attempts.{searched_pairs}
use Rattle.register.specs.Calls.{found}
use Rattle.register.specs.Noted.{trail_at}
use Rattle.register.specs.declared.verdict.Verdict.{Verdict}
use Rattle.register.specs.declared.verdict.Verdict.TheVariants.{Differ}
use Rattle.register.specs.Pairs.{kept_alike, pairs}
use Rattle.register.specs.Verdicts.{verdict}
use Rattle.register.proofs.CellJoins.{cell_at, walk_pair}

module _ (m : Automaton) (J : ℕ → ℕ → Bool) (p q : ℕ) where
  -- joined states are passed over,
  pub found_joined : J p q ≡ true → found m J p q ≡ record { noted = []; word = None }
  found_joined e = rw e refl

  -- of two states of which one is kept the empty word says so,
  pub found_unlike : J p q ≡ false → beq (m.kept p) (m.kept q) ≡ false → found m J p q ≡ record { noted = []; word = Some [] }
  found_unlike e f = rw (e, f) refl

  -- and from any others the search goes on
  pub found_further : J p q ≡ false → beq (m.kept p) (m.kept q) ≡ true → found m J p q ≡ searched (pairs m (kept_alike m) J) (searched_pairs m J p q)
  found_further e f = rw (e, f) refl

  pub further : (b d : Bool) → J p q ≡ false → b ≡ m.kept p → d ≡ m.kept q → not (beq b d) ≡ false → found m J p q ≡ searched (pairs m (kept_alike m) J) (searched_pairs m J p q)
  further b d e f h n = found_further e (subst (λ (x : Bool). beq (m.kept p) x ≡ true) h (subst (λ (x : Bool). beq x d ≡ true) f (not-false _ n)))

  faithful : Faithful (pairs m (kept_alike m) J)
  faithful = record { item_noted = λ x i a. refl; origin_noted = λ x i a. refl; letter_noted = λ x i a. refl }

  track : Tracked (pairs m (kept_alike m) J) (p, q) m.letters (searched_pairs m J p q)
  track = tracked (pairs m (kept_alike m) J) (p, q) m.letters faithful m.count

  pub ended_there : (i a : ℕ) → (searched_pairs m J p q).ended ≡ Some (i, a) → (i < length (searched_pairs m J p q).noted) × (a < m.letters)
  ended_there i a e = track.ended i a e

  -- the walk of the word that is handed over ends at the first state of the pair that ended the search
  pub walk_ends : (i a : ℕ) → (searched_pairs m J p q).ended ≡ Some (i, a) →
      walk m p (trail_at (searched_pairs m J p q).noted i ++ (a ∷ [])) ≡ m.next (cell_at (searched_pairs m J p q).noted i).first a
  walk_ends i a e =
      ap (λ (x : ℕ × ℕ). x.0) (sym (walk_pair m (trail_at (searched_pairs m J p q).noted i ++ (a ∷ [])) p q)
      ∙ fold-append (λ (z : ℕ × ℕ) b. (m.next z.0 b, m.next z.1 b)) (p, q) (trail_at (searched_pairs m J p q).noted i) (a ∷ [])
      ∙ ap (λ (x : ℕ × ℕ). (m.next x.0 a, m.next x.1 a)) (track.leads i (ended_there i a e).0))

  -- what is answered then
  pub verdict_ended : (i a : ℕ) (cells : List PairCell) (v : Verdict) → found m J p q ≡ searched (pairs m (kept_alike m) J) (searched_pairs m J p q) →
      (searched_pairs m J p q).ended ≡ Some (i, a) → cells ≡ (searched_pairs m J p q).noted →
      v ≡ Differ (length (trail_at cells i ++ (a ∷ []))) (cond (m.kept (m.next (cell_at cells i).first a)) p q) (length cells) → v ≡ verdict m p q (found m J p q)
  verdict_ended i a cells v f e same is = is ∙ rw (same, f, e, walk_ends i a e) refl
