use Rattle.std.proofs.Common.{rules}
use Rattle.register.proofs.Seen.{counted_more, counted_none}
use Rattle.register.proofs.classes.count_labels.Goals as goal

pub loop-i-init : goal.loop-i-init
loop-i-init c = search (rules, counted_none)

pub loop-i-preserved : goal.loop-i-preserved
loop-i-preserved c = search (rules, counted_more)
