use Rattle.std.proofs.Common.{◌≡◌, length}
use Rattle.register.specs.Rings.{Renumbered}
use Rattle.register.proofs.classes.number.Given as goal

abbrev pub invariant-loop-state : goal.invariant-loop-state
invariant-loop-state l = record { long : length l.table ≡ 4096; numbered : Renumbered l.initial.table l.table l.state }
