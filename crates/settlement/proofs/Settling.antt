-- What a verdict says that is right, and the settlement that says it.
use Rattle.std.proofs.Common.{◌≡◌, ℕ, cond, ◌==◌, ◌⊎◌, ◌↔◌, List, length, take, Option, Some, inl, inr, ap, refl, ◌∙◌, arith}
use Rattle.std.specs.Prelude.{option_map}
use Rattle.std.proofs.Math.Path.{subst⁻¹}
use Rattle.std.proofs.lemmas.Bool.{cond-false, cond-true, eq-eqb, eqb-true, false_from_ne_true}
use Rattle.automaton.specs.declared.side.Side.{Side}
use Rattle.automaton.specs.declared.side.Side.TheVariants.{First, Second}
use Rattle.automaton.specs.Automata.{Automaton}
use Rattle.automaton.specs.Diagrams.{Diagram}
use Rattle.automaton.specs.Words.{Over}
use Rattle.register.specs.declared.verdict.Verdict.{Verdict}
use Rattle.register.specs.declared.verdict.Verdict.TheVariants.{Same, Differ}
use Rattle.register.specs.Runs.{IsSame as SaysSame, KeptFrom, Named, handed}
use Rattle.register.specs.Verdicts.{verdict_value}
use Rattle.settlement.specs.declared.settlement.Settlement.{Settlement}
use Rattle.settlement.specs.declared.settlement.Settlement.TheVariants.{Same as SameWords, Differ as OtherWords}
use Rattle.settlement.specs.Settlements.{IsSame, KeptBy, length_of, word_of}
use Rattle.settlement.specs.Steps.{Tells}
use Rattle.settlement.proofs.Parting.{WordsOf, only}

-- The word of the settlement is the one that the verdict hands over,
pub same_word : (v : Verdict) (start : ℕ) (s : Settlement) (buffer : List ℕ) → Tells v start s → word_of s buffer ≡ handed v buffer
same_word (Same j) start s buffer t = ap (λ (o : Option ℕ). option_map (λ n. take n buffer) o) t.long
same_word (Differ long keeper tried) start s buffer t = ap (λ (o : Option ℕ). option_map (λ n. take n buffer) o) t.long

-- and it has the length that the settlement says.
pub same_length : (c : Automaton) (p q : ℕ) (v : Verdict) (start : ℕ) (s : Settlement) (buffer : List ℕ) → Tells v start s →
    ((w : List ℕ) → handed v buffer ≡ Some w → Named c p q v w) → length_of s ≡ option_map length (handed v buffer)
same_length c p q (Same j) start s buffer t named = t.long
same_length c p q (Differ long keeper tried) start s buffer t named = t.long ∙ ap (λ n. Some n) (named (take long buffer) refl).0

-- The settlement is "same" exactly if the verdict is.
pub same_said : (v : Verdict) (start : ℕ) (s : Settlement) → Tells v start s → IsSame s ↔ SaysSame v
same_said (Same i) start (SameWords j) t = ((λ _. tt), (λ _. tt))
same_said (Differ long keeper tried) start (OtherWords side n j) t = ((λ x. absurd x), (λ x. absurd x))
same_said (Same i) start (OtherWords side n j) t = let e = t.long in cc
same_said (Differ long keeper tried) start (SameWords j) t = let e = t.long in cc

-- The side that is named has the word, where the verdict tells its two states p and q apart.
module _ {d e : Diagram} {c : Automaton} {p q : ℕ} (a : WordsOf d c p) (b : WordsOf e c q) (other : q ≡ p → ⊥) where
  pub kept_by : (v : Verdict) (o : Option Side) (side : Side) (w : List ℕ) → Over c.letters w → Named c p q v w → o ≡ option_map (λ w. cond (w.1 == p) First Second) (verdict_value v).word →
      o ≡ Some side → KeptBy d e side w
  kept_by (Same j) o side w over named told is = cc
  kept_by (Differ long keeper tried) o side w over named told is = go named.1
    where
      named_side : side ≡ cond (keeper == p) First Second
      named_side = cc

      by_first : keeper ≡ p → side ≡ First
      by_first h = named_side ∙ cond-true (keeper == p) First Second (eq-eqb keeper p h)

      by_second : keeper ≡ q → side ≡ Second
      by_second h = named_side ∙ cond-false (keeper == p) First Second (false_from_ne_true _ (λ t. other (omega (arith, eqb-true keeper p t))))

      go : ((keeper ≡ p) × KeptFrom c p q w) ⊎ ((keeper ≡ q) × KeptFrom c q p w) → KeptBy d e side w
      go (inl h) = subst⁻¹ (λ (z : Side). KeptBy d e z w) (by_first h.0) (only a b w over h.1)
      go (inr h) = subst⁻¹ (λ (z : Side). KeptBy d e z w) (by_second h.0) (only b a w over h.1)
