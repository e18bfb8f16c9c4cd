use Rattle.automaton.specs.Answers.{HoldsRow}
use Rattle.automaton.proofs.rule.Rule.row.Given as goal

abbrev pub invariant-loop-letter : goal.invariant-loop-letter
invariant-loop-letter g l = HoldsRow l.letter (g.Self.Rule.next l.self) l.state l.raise l.spare
