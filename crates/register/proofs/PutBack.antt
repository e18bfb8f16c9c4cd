-- Classes whose saved entries are put back are as they were.
use Rattle.std.proofs.Common.{◌≡◌, ◌≤◌, ◌∙◌, ℕ, List, ◌++◌, drop, length, take, Ok, ap, sym, arith}
use Rattle.std.proofs.Math.Seq.{take-append_seam}
use Rattle.std.proofs.lemmas.List.{length-take-le}
use Rattle.register.specs.declared.classes.Classes.{Classes}
use Rattle.register.specs.declared.classes.Saved.{Saved}
use Rattle.std.proofs.Props.{props}
use mathlib.Core.HLevel.{is_prop→PathP}
use native.Mathlib.Nat.{ℕ_set}
use Rattle.register.specs.Rings.{IsTable}
use Rattle.automaton.specs.declared.rule.Rule.{Ghosts}
use Rattle.explore.specs.declared.pair_cell.PairCell.{PairCell}
use Rattle.register.specs.declared.register.Register.{Register}
use Rattle.register.specs.declared.verdict.Verdict.{Verdict}
use Rattle.register.specs.declared.verdict.Verdict.TheVariants.{Same, Differ}
use Rattle.register.specs.Attempts.{Left}
use Rattle.register.specs.Calls.{JoinedAfter, rule_of}
use Rattle.register.specs.Saved.{IsSaved}
use Rattle.register.proofs.Beyond.{numbers_put_back, ones_put_back}

-- Classes that have the same tables are the same.
pub same_classes : (a b : Classes) → a.states ≡ b.states → a.labels ≡ b.labels → a.gap ≡ b.gap → a.ring ≡ b.ring → a.second_gap ≡ b.second_gap → a.sizes ≡ b.sizes → a ≡ b
same_classes a b states labels gap ring second_gap sizes = λ i. record {
  states = states i;
  labels = labels i;
  gap = gap i;
  ring = ring i;
  second_gap = second_gap i;
  sizes = sizes i;
  table = is_prop→PathP (λ j. IsTable (states j) (labels j) (gap j) (ring j) (second_gap j) (sizes j)) (λ j. one_proof (states j) (labels j) (gap j) (ring j) (second_gap j) (sizes j)) a.table b.table i;
}
  where
    one_proof : (n : ℕ) (l g r h s : List ℕ) → IsProp (IsTable n l g r h s)
    one_proof n l g r h s = hlevel props

pub record Back (before : Classes) (labels ring sizes : List ℕ) : Type 0 where
  pub labels_back : labels ≡ before.labels
  pub ring_back : ring ≡ before.ring
  pub sizes_back : sizes ≡ before.sizes

-- the first entries of a list that begins with those of another
pub first_taken : (n : ℕ) (table new rest : List ℕ) → n ≤ length table → new ≡ take n table ++ rest → take n new ≡ take n table
first_taken n table new rest h e = ap (λ (l : List ℕ). take n l) e ∙ seam (length-take-le n table h)
  where
    seam : length (take n table) ≡ n → take n (take n table ++ rest) ≡ take n table
    seam long = ap (λ (k : ℕ). take k (take n table ++ rest)) (sym long) ∙ take-append_seam (take n table) rest

pub back : {n : ℕ} (before now : Classes) (saved : Saved n) (labels ring sizes : List ℕ) → before.states ≡ now.states → IsSaved before saved →
    labels ≡ take now.states saved.labels ++ drop now.states now.labels → ring ≡ take now.states saved.ring ++ drop now.states now.ring → sizes ≡ take now.states saved.sizes ++ drop now.states now.sizes →
    Back before labels ring sizes
back before now saved labels ring sizes states is a b c = record {
  labels_back = numbers_put_back now.states now.states (omega arith) before.labels now.labels (take now.states saved.labels) labels before.table.labels_long now.table.labels_long
      (λ u from hu. before.table.labels_from u (omega (arith, states)) hu) now.table.labels_from (rw states at is.labels) a;
  ring_back = numbers_put_back now.states now.states (omega arith) before.ring now.ring (take now.states saved.ring) ring before.table.ring_long now.table.ring_long
      (λ u from hu. before.table.ring_from u (omega (arith, states)) hu) now.table.ring_from (rw states at is.ring) b;
  sizes_back = ones_put_back now.states now.states (omega arith) before.sizes now.sizes (take now.states saved.sizes) sizes before.table.sizes_long now.table.sizes_long
      (λ u from hu. before.table.sizes_from u (omega (arith, states)) hu) now.table.sizes_from (rw states at is.sizes) c;
}

-- Registers that have the same rule and the same classes are the same.
same_registers : {R : Type 0} {g : Ghosts R} (a b : Register R g) → a.rule ≡ b.rule → a.classes ≡ b.classes → a ≡ b
same_registers {g = g} a b rule classes = λ i. record {
  rule = rule i;
  classes = classes i;
  sized = is_prop→PathP (λ j. (classes j).states ≡ g.count (rule j)) (λ j. ℕ_set (classes j).states (g.count (rule j))) a.sized b.sized i;
}

-- What is left of the classes is what is left of the register.
pub left_joined : {R : Type 0} (g : Ghosts R) (before after : Register R g) (noted : List PairCell) (v : Verdict) → after.rule ≡ before.rule →
    Left (rule_of g before).count before.classes noted v after.classes → JoinedAfter g before noted (Ok v) after
left_joined g before after noted (Same joins) rule left = left
left_joined g before after noted (Differ long keeper tried) rule left = same_registers after before rule left
