-- Comparing the starts of two automata that fit is right, by the law of the register that was just opened.
use Rattle.std.proofs.Common.{◌≡◌, ℕ, ◌+◌, ◌<◌, ◌≤◌, Bool, ◌==◌, List, [], ◌∷◌, length, Result, Ok, Err, ap, ◌∙◌, refl, sym, subst, arith}
use Rattle.std.specs.Prelude.{unwrap_or}
use Rattle.std.proofs.Math.Path.{subst⁻¹}
use Rattle.std.proofs.lemmas.Bool.{cond-false, cond-true, lt-ltb, le-ltb}
use Rattle.std.proofs.lemmas.Grind.{common_steps}
use Rattle.automaton.specs.declared.fault.Fault.{Fault}
use Rattle.automaton.specs.declared.kind.FaultKind.TheVariants.{BufferTooShort}
use Rattle.automaton.specs.declared.layer.Layer.TheVariants.{Register as OfRegister}
use Rattle.automaton.specs.declared.rule.Rule.{Ghosts}
use Rattle.automaton.specs.Automata.{Automaton, Lawful}
use Rattle.automaton.specs.Faults.{refusal}
use Rattle.automaton.specs.Meanings.{meaning}
use Rattle.combine.specs.Bounds.{disjoint_union_lawful}
use Rattle.combine.specs.Combined.{disjoint_union, sum}
use Rattle.combine.specs.Laws.{FitSum}
use Rattle.combine.proofs.Kept.{unites}
use Rattle.explore.specs.declared.pair_cell.PairCell.{PairCell}
use Rattle.explore.specs.Search.{Searched}
use Rattle.explore.specs.Written.{if_answered, over}
use Rattle.register.specs.declared.register.Register.{Register}
use Rattle.register.specs.declared.verdict.Verdict.{Verdict}
use Rattle.register.specs.Calls.{Compared, found, joined_in, rule_of}
use Rattle.register.specs.Pairs.{IsSmallest, kept_alike}
use Rattle.register.specs.Refusals.{checked}
use Rattle.register.specs.Relations.{Agree, Holds}
use Rattle.register.specs.Runs.{Law, OneRight, Right, compared, fresh}
use Rattle.register.specs.Verdicts.{verdict}
use Rattle.register.proofs.Standing.{apart_law, kept_law}
use Rattle.settlement.specs.Settlements.{search_of}
use Rattle.settlement.specs.Steps.{StartsCompared}

-- Two automata that fit, where the register has joined no two different states of their disjoint union.
module _ (m n : Automaton) (l : Lawful m) (k : Lawful n) (fit : FitSum m n) where
  abbrev c : Automaton
  c = disjoint_union m n

  abbrev s : ℕ
  s = m.start

  abbrev t : ℕ
  t = m.count + n.start

  count : c.count ≡ m.count + n.count
  count = ((unites m n l).beside fit).count

  abbrev Apart : (ℕ → ℕ → Bool) → Type 0
  Apart J = Agree c.count J (λ x y. x == y)

  -- such a test joins what the smallest equivalence joins
  smallest : (J : ℕ → ℕ → Bool) → Apart J → IsSmallest c (Holds fresh.pairs) J
  smallest J a = (apart_law c (disjoint_union_lawful m n l k) (kept_alike c) (kept_law.equivalence c) J a).held.smallest

  -- so the search over it is the defined one
  found_same : (J : ℕ → ℕ → Bool) → Apart J → (v : Verdict) (cells : List PairCell) (word : List ℕ) → Right c fresh s t v cells word → found c J s t ≡ search_of m n
  found_same J a v cells word r = r.defined J (smallest J a) ∙ sym (r.defined (λ x y. x == y) (smallest (λ x y. x == y) (λ u v hu hv. refl)))

  module _ (J : ℕ → ℕ → Bool) (apart : Apart J) (cells : List PairCell) (word : List ℕ) (r : Result Verdict Fault) (cells_after : List PairCell) (word_after : List ℕ) (room : sum m n ≤ length cells)
      (answer : r ≡ checked c.count s t (length cells) (length word) (verdict c s t (found c J s t))) (written : word_after ≡ if_answered r (over (unwrap_or (found c J s t).word []) word) word)
      (one : OneRight c fresh (compared s t cells word r cells_after word_after)) where
    s_there : s < c.count
    s_there = omega (arith, count, l.begins)

    t_there : t < c.count
    t_there = omega (arith, count, k.begins)

    few : c.count ≤ length cells
    few = omega (arith, count, room)

    -- the buffer has fewer bytes than there are states, or not
    short : length word < sum m n → StartsCompared m n word r word_after
    short h = subst⁻¹ (λ (z : Result Verdict Fault). StartsCompared m n word z word_after) is
        (record { refused = cond-true _ _ _ (lt-ltb _ _ h); accepted = tt; right = tt; written = written ∙ ap (λ z. if_answered z (over (unwrap_or (found c J s t).word []) word) word) is })
      where
        is : r ≡ Err (refusal BufferTooShort OfRegister)
        is = grind (arith, common_steps, answer, s_there, t_there, few, count, h)

    long : sum m n ≤ length word → StartsCompared m n word r word_after
    long h = subst⁻¹ (λ (z : Result Verdict Fault). StartsCompared m n word z word_after) d.1 (record {
      refused = tt;
      accepted = cond-false _ _ _ (le-ltb _ _ h);
      right = record { cells = cells_after; right = d.2 };
      written = written ∙ ap (λ z. if_answered z (over (unwrap_or (found c J s t).word []) word) word) d.1
          ∙ ap (λ (x : Searched PairCell). over (unwrap_or x.word []) word) (found_same J apart d.0 cells_after word_after d.2);
    })
      where
        d : (v : Verdict) × (r ≡ Ok v) × Right c fresh s t v cells_after word_after
        d = one s_there t_there few (omega (arith, count, h))

    compared_starts : StartsCompared m n word r word_after
    compared_starts = grind (arith, short, long)

-- The register means that disjoint union.
module _ {R : Type 0} (g : Ghosts R) (reg : Register R g) (law : Law g reg) (p q : ℕ) (cells : List PairCell) (word : List ℕ)
    (r : Result Verdict Fault) (after : Register R g) (cells_after : List PairCell) (word_after : List ℕ) (e : Compared g reg p q cells word r after cells_after word_after) where
  one : OneRight (rule_of g reg) fresh (compared p q cells word r cells_after word_after)
  one = (law.comparings (compared p q cells word r cells_after word_after ∷ []) after (after, e, refl)).0

  module _ (x : R) (held : reg.rule ≡ x) (apart : Agree (meaning g x).count (joined_in reg) (λ x y. x == y)) (m n : Automaton) (l : Lawful m) (k : Lawful n) (fit : FitSum m n) (means : meaning g x ≡ disjoint_union m n) (at_p : p ≡ m.start)
      (at_q : q ≡ m.count + n.start) (room : sum m n ≤ length cells) where
    -- what holds of its rule and of the two states holds of that union and of the two starts
    moved : (P : Automaton → ℕ → ℕ → Type 0) → P (rule_of g reg) p q → P (disjoint_union m n) m.start (m.count + n.start)
    moved P h =
        subst (λ (z : Automaton). P z m.start (m.count + n.start)) (ap (meaning g) held ∙ means)
        (subst (λ (i : ℕ). P (rule_of g reg) m.start i) at_q (subst (λ (i : ℕ). P (rule_of g reg) i q) at_p h))

    pub judged : StartsCompared m n word r word_after
    judged =
        let J = joined_in reg in
        compared_starts m n l k fit J (subst (λ (z : Automaton). Agree z.count J (λ x y. x == y)) means apart) cells word r cells_after word_after room
        (moved (λ z i j. r ≡ checked z.count i j (length cells) (length word) (verdict z i j (found z J i j))) e.answer)
        (moved (λ z i j. word_after ≡ if_answered r (over (unwrap_or (found z J i j).word []) word) word) e.written)
        (moved (λ z i j. OneRight z fresh (compared i j cells word r cells_after word_after)) one)
