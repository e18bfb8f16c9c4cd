-- For any two sheets one line alone is printed.
use Rattle.std.proofs.Common.{◌≡◌, ℕ, List, Some, take, ap, inl, inr, refl, sym, ◌∙◌}
use Rattle.automaton.specs.declared.side.Side.{Side}
use Rattle.automaton.specs.declared.side.Side.TheVariants.{Neither, First, Second, Pair}
use Rattle.automaton.specs.Diagrams.{Diagram}
use Rattle.settlement.specs.declared.settlement.Settlement.{Settlement}
use Rattle.settlement.specs.declared.settlement.Settlement.TheVariants.{Same, Differ}
use Rattle.settle.specs.Reports.{PrintedLaw, handed_text}
use Rattle.settlement.specs.Settlements.{KeptBy, Settled}

-- one side alone accepts a word that the other does not
one_side : (a b : Diagram) (side other : Side) (w : List ℕ) → KeptBy a b side w → KeptBy a b other w → other ≡ side
one_side a b First First w o q = refl
one_side a b Second Second w o q = refl
one_side a b First Second w o q = absurd (o.not_there q.here)
one_side a b Second First w o q = absurd (o.not_there q.here)
one_side a b Neither other w o q = absurd o
one_side a b Pair other w o q = absurd o
one_side a b First Neither w o q = absurd q
one_side a b First Pair w o q = absurd q
one_side a b Second Neither w o q = absurd q
one_side a b Second Pair w o q = absurd q

one_text : (first second : List ℕ) (s t : Settlement) (a b : List ℕ) → Settled first second s a → Settled first second t b → handed_text t b ≡ handed_text s a
one_text first second (Same i) (Same j) a b h k = ap (λ (z : ℕ). handed_text (Same z) a) (k.joins ∙ sym h.joins)
one_text first second (Same i) (Differ side long tried) a b h k = cc (h.word, k.word)
one_text first second (Differ side long tried) (Same j) a b h k = cc (h.word, k.word)
one_text first second (Differ side long tried) (Differ other longer joins) a b h k =
    let same_word : take longer b ≡ take long a = cc (h.word, k.word) in
    let same_joins : joins ≡ tried = k.joins ∙ sym h.joins in
    let same_side : other ≡ side = one_side _ _ side other (take long a) (h.kept side (take long a) refl refl) (k.kept other (take long a) refl (ap Some same_word)) in
    rw (same_side, same_word, same_joins) refl

pub printed_law : PrintedLaw
printed_law first second out other (inl (f, is, a)) (inl (g, also, b)) = cc
printed_law first second out other (inl (f, is, a)) (inr (t, b, k)) = cc k.unrefused
printed_law first second out other (inr (s, a, h)) (inl (g, also, b)) = cc h.unrefused
printed_law first second out other (inr (s, a, h)) (inr (t, b, k)) = k.line ∙ one_text first second s t a b h.settled k.settled ∙ sym h.line
