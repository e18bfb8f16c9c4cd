-- What a leaf means.
--   leaf_means    the automaton on the sheet that was opened last, of either kind
--   leaf_bounds   it keeps to the bounds of rules
use Rattle.automaton.specs.Automata.{Automaton, Lawful}
use Rattle.crosscheck.specs.declared.leaf.Leaf.{Leaf}
use Rattle.crosscheck.specs.declared.leaf.Leaf.TheVariants.{Table, Nfa}
use Rattle.sheet.specs.Bounds.{setwise_lawful, tabled_lawful}
use Rattle.sheet.specs.Layout.{tabled}
use Rattle.sheet.specs.NfaLayout.{setwise}

abbrev pub leaf_means : Leaf → Automaton
leaf_means (Table t) = tabled t.bytes.items
leaf_means (Nfa t) = setwise t.bytes.items

pub leaf_bounds : (l : Leaf) → Lawful (leaf_means l)
leaf_bounds (Table t) = tabled_lawful t.bytes.items t.closed
leaf_bounds (Nfa t) = setwise_lawful t.bytes.items t.narrow
