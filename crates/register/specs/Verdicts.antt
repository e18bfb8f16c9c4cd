-- What comparing answers.
--   VerdictValue    what a verdict says: the number of its case; how many pairs were joined, on trial or to stay; and of a word that separates, its
--                   length and the state that keeps it
--   verdict_value   each case of a verdict: 0 is "same", which carries the joins, and 1 is "differ", which carries the word's length, the state that keeps it,
--                   and the joins tried
--   verdict_by      "same" where no word was found, and else "differ"; p keeps the word if the walk from p ends at a kept state, and else q does
--   verdict         what comparing p and q answers, where the search gives this: `verdict_by` of the joins and the word
use Rattle.std.specs.Prelude.{ℕ, cond, List, length, Option, Some, None}
use Rattle.automaton.specs.Automata.{Automaton}
use Rattle.automaton.specs.Words.{walk}
use Rattle.explore.specs.declared.pair_cell.PairCell.{PairCell}
use Rattle.explore.specs.Search.{Searched}
use Rattle.register.specs.declared.verdict.Verdict.{Verdict}
use Rattle.register.specs.declared.verdict.Verdict.TheVariants.{Same, Differ}

pub record VerdictValue : Type 0 where
  pub number : ℕ
  pub joins : ℕ
  pub word : Option (ℕ × ℕ)

abbrev pub verdict_value : Verdict → VerdictValue
verdict_value (Same joins) = record { number = 0; joins = joins; word = None }
verdict_value (Differ long keeper tried) = record { number = 1; joins = tried; word = Some (long, keeper) }

abbrev pub verdict_by : Automaton → ℕ → ℕ → ℕ → Option (List ℕ) → Verdict
verdict_by m p q joins None = Same joins
verdict_by m p q joins (Some w) = Differ (length w) (cond (m.kept (walk m p w)) p q) joins

abbrev pub verdict : Automaton → ℕ → ℕ → Searched PairCell → Verdict
verdict m p q r = verdict_by m p q (length r.noted) r.word
