-- What a level means: a rule of some type, or one combination of rules of that type.
--   level_means    the automaton of the rule, or the combination of those of its rules
--   level_bounds   it keeps to the bounds of rules
use Rattle.automaton.specs.Automata.{Automaton, Lawful}
use Rattle.automaton.specs.Meanings.{meaning}
use Rattle.automaton.specs.declared.rule.Rule.{Ghosts}
use Rattle.combine.specs.declared.complement.Complement.{Complement}
use Rattle.combine.specs.Bounds.{complement_lawful, difference_lawful, disjoint_union_lawful, intersection_lawful}
use Rattle.combine.specs.Combined.{complement, difference, disjoint_union, intersection}
use Rattle.crosscheck.specs.declared.level.Level.{Level}
use Rattle.crosscheck.specs.declared.level.Level.TheVariants.{Only, Complemented, Intersected, United, Subtracted}

abbrev pub level_means : {R : Type 0} (g : Ghosts R) (h : Ghosts (Complement R)) → Level R g h → Automaton
level_means g h (Only r) = meaning g r
level_means g h (Complemented c) = complement (meaning g c.rule)
level_means g h (Intersected c) = intersection (meaning g c.first.rule) (meaning g c.second.rule)
level_means g h (United c) = disjoint_union (meaning g c.first.rule) (meaning g c.second.rule)
level_means g h (Subtracted c) = difference (meaning g c.pair.first.rule) (meaning g c.pair.second.rule.rule)

pub level_bounds : {R : Type 0} (g : Ghosts R) (h : Ghosts (Complement R)) (l : Level R g h) → Lawful (level_means g h l)
level_bounds g h (Only r) = g.bounds r
level_bounds g h (Complemented c) = complement_lawful (meaning g c.rule) (g.bounds c.rule)
level_bounds g h (Intersected c) = intersection_lawful (meaning g c.first.rule) (meaning g c.second.rule) (g.bounds c.first.rule) (g.bounds c.second.rule)
level_bounds g h (United c) = disjoint_union_lawful (meaning g c.first.rule) (meaning g c.second.rule) (g.bounds c.first.rule) (g.bounds c.second.rule)
level_bounds g h (Subtracted c) = difference_lawful (meaning g c.pair.first.rule) (meaning g c.pair.second.rule.rule) (g.bounds c.pair.first.rule) (g.bounds c.pair.second.rule.rule)
