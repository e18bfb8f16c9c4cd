-- Opening two table sheets, the first one first.
--   opening       the answer to one sheet: its first fault, on this side, or none
--   both_opened   the answer to two sheets: the first refusal that applies, of the first sheet and then of the second; and this, if there is none
--   OnSheet       the sheet has no fault, and this is the automaton on it
--   NotDecoded    there is no memory for the rule on a sheet, which has no fault
--   NoMemory      there is none for the first sheet; or there is none for the second or for the search over both, where neither has a fault
--   Unopened      a refusal of one sheet: its first fault, or want of memory
use Rattle.std.specs.Prelude.{◌≡◌, ℕ, ◌⊎◌, List, None, Err, Result}
use Rattle.automaton.specs.declared.fault.Fault.{Fault}
use Rattle.automaton.specs.declared.side.Side.{Side}
use Rattle.automaton.specs.declared.side.Side.TheVariants.{First, Second}
use Rattle.automaton.specs.Automata.{Automaton}
use Rattle.automaton.specs.Faults.{and_then, sided, sided_answer}
use Rattle.sheet.specs.Forms.{answered, out_of_memory}
use Rattle.sheet.specs.Layout.{WellFormed, tabled}
use Rattle.sheet.specs.Opening.{table_form}

abbrev pub opening : Side → List ℕ → Result (Unit {0}) Fault
opening side sheet = sided_answer side (answered (table_form.fault sheet))

abbrev pub both_opened : {T : Type 0} → List ℕ → List ℕ → Result T Fault → Result T Fault
both_opened first second answer = and_then (opening First first) (λ _. and_then (opening Second second) (λ _. answer))

pub record OnSheet (sheet : List ℕ) (m : Automaton) : Type 0 where
  pub faultless : table_form.fault sheet ≡ None
  pub formed : WellFormed sheet
  pub means : m ≡ tabled sheet

pub record NotDecoded (side : Side) (sheet : List ℕ) (f : Fault) : Type 0 where
  pub is : f ≡ sided side out_of_memory
  pub faultless : table_form.fault sheet ≡ None

abbrev pub NoMemory : List ℕ → List ℕ → Fault → Type 0
NoMemory first second f = NotDecoded First first f ⊎ ((table_form.fault first ≡ None) × NotDecoded Second second f)

abbrev pub Unopened : Side → List ℕ → Fault → Type 0
Unopened side sheet f = (opening side sheet ≡ Err f) ⊎ NotDecoded side sheet f
