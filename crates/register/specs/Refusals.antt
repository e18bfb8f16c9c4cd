-- What the calls of a register refuse.
--   refused      a refusal of a register
--   both_there   both states are there, of n
--   checked      the answer to a comparing with so many cells and bytes: the first refusal that applies, of a state that is not there, of fewer cells than states,
--                of fewer bytes than states; and this, if none does
use Rattle.std.specs.Prelude.{ℕ, Bool, cond, ◌&&◌, Err, Result, nat_lt}
use Rattle.automaton.specs.declared.fault.Fault.{Fault}
use Rattle.automaton.specs.declared.kind.FaultKind.{FaultKind}
use Rattle.automaton.specs.declared.kind.FaultKind.TheVariants.{NoSuchState}
use Rattle.automaton.specs.declared.layer.Layer.TheVariants.{Register}
use Rattle.automaton.specs.Faults.{refusal}
use Rattle.explore.specs.Room.{room_checked}

abbrev pub refused : FaultKind → Fault
refused kind = refusal kind Register

abbrev pub both_there : ℕ → ℕ → ℕ → Bool
both_there n p q = nat_lt p n && nat_lt q n

abbrev pub checked : {T : Type 0} → ℕ → ℕ → ℕ → ℕ → ℕ → T → Result T Fault
checked n p q cells bytes x = cond (both_there n p q) (room_checked Register n cells bytes x) (Err (refused NoSuchState))
