-- What opening the sheet of a nondeterministic automaton answers.
--   too_many_own     the refusal of a sheet with more than 10 own states
--   nfa_fault        the first fault of a sheet: no byte, then too many own states, then of the wrong length, then a bit set after the
--                    last set
--   SubsetsPictured  after an accepted sheet the rule is the subset construction of the automaton that the sheet pictures
--   nfa_form         the form of these sheets
use Rattle.std.specs.Prelude.{◌≡◌, ℕ, cond, List, length, Some, None, Ok, Option, Result, ◌==◌, nat_lt}
use Rattle.automaton.specs.declared.fault.Fault.{Fault}
use Rattle.automaton.specs.declared.kind.FaultKind.TheVariants.{TooManyNfaStates}
use Rattle.automaton.specs.declared.layer.Layer.TheVariants.{Sheet}
use Rattle.automaton.specs.Automata.{Automaton}
use Rattle.automaton.specs.Faults.{refusal}
use Rattle.sheet.specs.Bits.{truncated}
use Rattle.sheet.specs.Forms.{Form}
use Rattle.sheet.specs.NfaLayout.{NfaWellFormed, nfa_bytes, nfa_padding, own_count, pictured, setwise}
use Rattle.sheet.specs.Opening.{padding_set, wrong_length}
use Rattle.sheet.specs.Subsets.{Subsets}

abbrev pub too_many_own : Fault
too_many_own = refusal TooManyNfaStates Sheet

abbrev pub nfa_fault : List ℕ → Option Fault
nfa_fault bs =
    cond (nat_lt (length bs) 1) (Some truncated)
    (cond (nat_lt 10 (own_count bs)) (Some too_many_own)
    (cond (length bs == nfa_bytes bs) (cond (nfa_padding bs == 0) None (Some padding_set))
    (Some wrong_length)))

abbrev pub SubsetsPictured : List ℕ → Automaton → Result (Unit {0}) Fault → Type 0
SubsetsPictured sheet rule r = r ≡ Ok tt → Subsets (pictured sheet) rule

abbrev pub nfa_form : Form
nfa_form = record { fault = nfa_fault; WellFormed = NfaWellFormed; means = setwise; drawn = pictured; Also = SubsetsPictured }
