-- What a rule means.
--   meaning   the automaton that a value of a rule's type stands for
use Rattle.automaton.specs.Automata.{Automaton, automaton}
use Rattle.automaton.specs.declared.rule.Rule.{Ghosts}

abbrev pub meaning : {S : Type 0} → Ghosts S → S → Automaton
meaning g s = automaton (g.count s) (g.letters s) (g.start s) (g.kept s) (g.next s)
