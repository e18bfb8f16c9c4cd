-- What a comparing answers and hands over is right, where what is joined is held by the tally's pairs.
use Rattle.std.proofs.Common.{◌≡◌, ℕ, ◌<◌, Bool, true, false, cond, ◌⊎◌, ◌↔◌, List, [], length, length-append, ◌+◌, take, drop, Option, None, Some, refl, sym, ap, ap₂, ◌∙◌, inl, inr, arith}
use Rattle.std.specs.Bool.{beq, one_answer}
use Rattle.std.specs.Prelude.{unwrap_or}
use Rattle.std.proofs.Math.Path.{subst⁻¹}
use Rattle.std.proofs.Math.Seq.{take-append_seam}
use Rattle.std.proofs.lemmas.Bool.{cond-false, cond-true, true≢false}
use Rattle.automaton.specs.Automata.{Automaton, Lawful}
use Rattle.automaton.specs.Words.{walk}
use Rattle.explore.specs.declared.pair_cell.PairCell.{PairCell}
use Rattle.explore.specs.Search.{Searched}
use Rattle.explore.specs.Written.{over}
use Rattle.explore.proofs.Order.{first_short}
use Rattle.register.specs.declared.verdict.Verdict.{Verdict}
use Rattle.register.specs.Calls.{found}
use Rattle.register.specs.Noted.{Noted}
use Rattle.register.specs.Pairs.{Found as Came, Held, IsSmallest, Separates, kept_alike}
use Rattle.register.specs.Relations.{Agree, Holds, Joins}
use Rattle.register.specs.Runs.{IsSame, KeptFrom, Named, Right, JoinedBy, Tally, handed}
use Rattle.register.specs.Verdicts.{verdict, verdict_by, verdict_value}
use Rattle.register.proofs.Alike.{found_alike}
use Rattle.register.proofs.NewWords.{noted_carry}
use Rattle.register.proofs.Standing.{kept_law}

-- Two tests that join what one relation joins agree.
smallest_agree : (m : Automaton) (held : List (ℕ × ℕ)) (J L : ℕ → ℕ → Bool) → IsSmallest m (Holds held) J → IsSmallest m (Holds held) L → Agree m.count J L
smallest_agree m held J L s t u v hu hv = one_answer (J u v) (L u v) (s u v hu hv) (t u v hu hv)

module _ (m : Automaton) (p q n : ℕ) where
  pub joins_noted : (o : Option (List ℕ)) → (verdict_value (verdict_by m p q n o)).joins ≡ n
  joins_noted None = refl
  joins_noted (Some w) = refl

  pub same_none : (o : Option (List ℕ)) → IsSame (verdict_by m p q n o) → o ≡ None
  same_none None s = refl
  same_none (Some w) s = absurd s

  -- one of the two states keeps a word that separates them
  named : (w : List ℕ) → Separates m (kept_alike m) p q w → Named m p q (verdict_by m p q n (Some w)) w
  named w s = (refl, go (m.kept (walk m p w)) (m.kept (walk m q w)) refl refl s.apart)
    where
      go : (b d : Bool) → m.kept (walk m p w) ≡ b → m.kept (walk m q w) ≡ d → beq (m.kept (walk m p w)) (m.kept (walk m q w)) ≡ false →
          ((cond (m.kept (walk m p w)) p q ≡ p) × KeptFrom m p q w) ⊎ ((cond (m.kept (walk m p w)) p q ≡ q) × KeptFrom m q p w)
      go true false e f a = inl (cond-true _ p q e, (e, f))
      go false true e f a = inr (cond-false _ p q e, (f, e))
      go true true e f a = absurd (true≢false (rw (e, f) at a))
      go false false e f a = absurd (true≢false (rw (e, f) at a))

module _ (m : Automaton) (l : Lawful m) (t : Tally) (J : ℕ → ℕ → Bool) (h : Held m (kept_alike m) t.pairs J) (p q : ℕ) (hp : p < m.count) (hq : q < m.count)
    (r : Searched PairCell) (is : r ≡ found m J p q) (c : Came m (kept_alike m) J p q r) where
  abbrev v : Verdict
  v = verdict m p q r

  same : (o : Option (List ℕ)) → r.word ≡ o → IsSame (verdict_by m p q (length r.noted) o) ↔ ((w : List ℕ) → Separates m (kept_alike m) p q w → ⊥)
  same None e = ((λ _. c.unseparated e), (λ _. tt))
  same (Some w) e = ((λ s. absurd s), (λ f. f w (c.first w e).0))

  module _ (cells_after : List PairCell) (word_after : List ℕ) (cells : List PairCell) (word : List ℕ)
      (noted : cells_after ≡ over r.noted cells) (written : word_after ≡ over (unwrap_or r.word []) word) where
    -- the word handed over is the word that was found,
    word_handed : (o : Option (List ℕ)) → r.word ≡ o → handed (verdict_by m p q (length r.noted) o) word_after ≡ o
    word_handed None e = refl
    word_handed (Some w) e = ap Some (rw (written, e) (take-append_seam w (drop (length w) word)))

    found_handed : handed v word_after ≡ r.word
    found_handed = word_handed r.word refl

    -- and the cells handed over are those that were noted
    cells_handed : take (verdict_value v).joins cells_after ≡ r.noted
    cells_handed = rw (joins_noted m p q (length r.noted) r.word, noted) (take-append_seam r.noted (drop (length r.noted) cells))

    long : length cells_after ≡ length r.noted + length (drop (length r.noted) cells)
    long = ap length noted ∙ length-append r.noted (drop (length r.noted) cells)

    is_found : (w : List ℕ) → handed v word_after ≡ Some w → r.word ≡ Some w
    is_found w e = sym found_handed ∙ e

    pub right : Right m t p q v cells_after word_after
    right = record {
      same = same r.word refl;
      first = λ w e. c.first w (is_found w e);
      shortest = λ w e. first_short (Separates m (kept_alike m) p q) w (c.first w (is_found w e));
      named = λ w e. subst⁻¹ (λ (o : Option (List ℕ)). Named m p q (verdict_by m p q (length r.noted) o) w) (is_found w e) (named m p q (length r.noted) w (c.first w (is_found w e)).0);
      many = omega (arith, long, joins_noted m p q (length r.noted) r.word);
      noted = subst⁻¹ (λ (z : List PairCell × Option (List ℕ)). Noted m (JoinedBy m t) p q z.0 z.1) (ap₂ (λ (x : List PairCell) (y : Option (List ℕ)). (x, y)) cells_handed found_handed)
          (noted_carry m p q (Joins J) (JoinedBy m t) (λ x y hx hy. (h.smallest x y hx hy).0) (λ x y hx hy. (h.smallest x y hx hy).1) r.noted r.word c.noted);
      defined = λ L s. sym (found_alike m l (kept_alike m) (kept_law.equivalence m) J L h.standing (smallest_agree m t.pairs J L h.smallest s) p q hp hq)
          ∙ sym is ∙ ap₂ (λ (cells : List PairCell) (w : Option (List ℕ)). record { noted = cells; word = w }) (sym cells_handed) (sym found_handed);
    }
