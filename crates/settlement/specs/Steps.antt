-- What the steps of settling two table sheets promise to each other.
--   VerdictRight     a verdict on the two starts, with the word at the beginning of a buffer, is right in the sense of the register's law
--   StartsCompared   comparing the two starts, with a buffer for the word: it is refused exactly if the buffer has fewer bytes than there are states, and otherwise it is right; and
--                    a word that the defined search finds stands at the beginning of the buffer
--   Tells            a settlement says what a verdict says: the side is the first if the verdict names the first's start, and else the second
use Rattle.std.specs.Prelude.{◌≡◌, ℕ, ◌+◌, cond, List, [], length, Result, Ok, Err, IfErr, IfOk, option_map, unwrap_or, ◌==◌}
use Rattle.automaton.specs.declared.fault.Fault.{Fault}
use Rattle.automaton.specs.declared.layer.Layer.TheVariants.{Register}
use Rattle.automaton.specs.declared.side.Side.TheVariants.{First, Second}
use Rattle.automaton.specs.Automata.{Automaton}
use Rattle.combine.specs.Combined.{disjoint_union, sum}
use Rattle.explore.specs.declared.pair_cell.PairCell.{PairCell}
use Rattle.explore.specs.Room.{bytes_checked}
use Rattle.explore.specs.Written.{if_answered, over}
use Rattle.register.specs.declared.verdict.Verdict.{Verdict}
use Rattle.register.specs.Runs.{Right, fresh}
use Rattle.register.specs.Verdicts.{verdict_value}
use Rattle.settlement.specs.declared.settlement.Settlement.{Settlement}
use Rattle.settlement.specs.Settlements.{joins_of, keeper_of, length_of, search_of}

pub record VerdictRight (m n : Automaton) (v : Verdict) (buffer : List ℕ) : Type 0 where
  pub cells : List PairCell
  pub right : Right (disjoint_union m n) fresh m.start (m.count + n.start) v cells buffer

pub record StartsCompared (m n : Automaton) (word : List ℕ) (r : Result Verdict Fault) (word_after : List ℕ) : Type 0 where
  pub refused : IfErr r (λ f. bytes_checked Register (sum m n) (length word) ≡ Err f)
  pub accepted : IfOk r (λ v. bytes_checked Register (sum m n) (length word) ≡ Ok tt)
  pub right : IfOk r (λ v. VerdictRight m n v word_after)
  pub written : word_after ≡ if_answered r (over (unwrap_or (search_of m n).word []) word) word

pub record Tells (v : Verdict) (start : ℕ) (s : Settlement) : Type 0 where
  pub joins : joins_of s ≡ (verdict_value v).joins
  pub long : length_of s ≡ option_map (λ w. w.0) (verdict_value v).word
  pub keeper : keeper_of s ≡ option_map (λ w. cond (w.1 == start) First Second) (verdict_value v).word
