-- The diagram that a sheet draws is that of the automaton that it writes down.
use Rattle.std.proofs.Common.{◌≡◌, ℕ, ◌↔◌, List, arith}
use Rattle.std.proofs.lemmas.Grind.{common_steps}
use Rattle.automaton.specs.Diagrams.{Accepts, diagram}
use Rattle.automaton.specs.Languages.{Keeps}
use Rattle.automaton.proofs.Textbook.{keeps_accepts}
use Rattle.sheet.specs.Bits.{bit, field}
use Rattle.sheet.specs.Bounds.{tabled_lawful}
use Rattle.sheet.specs.Layout.{Closed, drawn, tabled}

field_one : (bs : List ℕ) (i : ℕ) → field bs i 1 ≡ bit bs i
unfolding field
field_one bs i = grind (arith, common_steps)

same_drawing : (bs : List ℕ) → diagram (tabled bs) ≡ drawn bs
same_drawing bs = grind (arith, common_steps, field_one)

pub keeps_drawn : (bs : List ℕ) → Closed bs → (w : List ℕ) → Keeps (tabled bs) w ↔ Accepts (drawn bs) w
keeps_drawn bs closed w = rw (← same_drawing bs) (keeps_accepts (tabled bs) (tabled_lawful bs closed) w)
