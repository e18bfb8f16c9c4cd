-- The written answers are those of the rule, so they keep to its bounds.
use Rattle.std.proofs.Common.{◌≡◌, ℕ, Bool, List, length, arith}
use Rattle.std.proofs.lemmas.Grind.{common_steps}
use Rattle.automaton.specs.Automata.{Automaton, Lawful}
use Rattle.dense.specs.Copies.{SameAnswers}
use Rattle.dense.specs.Listed.{KeptListed, RowsListed, listed}

pub same_answers : (m : Automaton) (n k s : ℕ) (kept : List Bool) (rows : List (List ℕ)) → n ≡ m.count → k ≡ m.letters → s ≡ m.start →
    length kept ≡ m.count → KeptListed m kept → length rows ≡ m.count → RowsListed m rows → SameAnswers m (listed n k s kept rows)
same_answers m n k s kept rows count letters start kept_long is_kept rows_long is_next = record {
  count = count;
  letters = letters;
  start = start;
  kept = λ p h. is_kept p (omega arith);
  next = λ p a hp ha. is_next p a (omega arith) ha;
}

-- What has the same answers keeps to the same bounds.
pub same_lawful : (m n : Automaton) → Lawful m → SameAnswers m n → Lawful n
same_lawful m n h same = grind (arith, common_steps, h.stays, same.next)
