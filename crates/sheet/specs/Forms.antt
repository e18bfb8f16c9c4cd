-- Forms of sheets, and what opening a sheet of a form promises.
--   Form            a form of sheets, by the first fault of a sheet, or none; which sheets are well-formed; the automaton that a sheet
--                   writes down; the same as a diagram, drawn from the sheet's bits; and what else is promised of the rule and the
--                   answer after a sheet was offered
--   out_of_memory   the refusal for want of memory
--   answered        the answer to a fault, or to none
--   held_after      the bytes held after it: those of the sheet, or with a fault the old ones
--   Checked         what the check of a sheet tells: the answer is the defined one; it is yes exactly for a well-formed sheet, and then the
--                   sheet's automaton keeps the words that its diagram accepts; and what else the form promises of a rule that is
--                   then this automaton
--   Opened          the promise of opening, with the meaning of the rule afterwards: answer and bytes are the defined ones; it succeeds
--                   exactly on a well-formed sheet; the rule is that of the bytes held; the words that it then keeps are those that
--                   the diagram of the sheet accepts; and what else the form promises
--   Decodes         the promise of making a rule out of a sheet that is lent: the sheet has no fault, and is well-formed; the rule is that of
--                   the sheet; and the words that it keeps are those that the diagram of the sheet accepts
--   Undecoded       the promise where none is made: the refusal is the first fault of the sheet, or want of memory for a sheet without a
--                   fault; the sheet is well-formed exactly if memory is wanting; and what else the form promises
--   NotCopied       a sheet without a fault was not copied for want of memory, and the old bytes are held
--   Copied          the promise of opening a copy: opened, or not copied
use Rattle.std.specs.Prelude.{◌≡◌, ◌⊎◌, ◌↔◌, ℕ, List, Some, None, Ok, Err, Option, Result}
use Rattle.automaton.specs.declared.fault.Fault.{Fault}
use Rattle.automaton.specs.declared.kind.FaultKind.TheVariants.{OutOfMemory}
use Rattle.automaton.specs.declared.layer.Layer.TheVariants.{Sheet}
use Rattle.automaton.specs.Automata.{Automaton}
use Rattle.automaton.specs.Diagrams.{Accepts, Diagram}
use Rattle.automaton.specs.Faults.{refusal}
use Rattle.automaton.specs.Languages.{Keeps}

pub record Form : Type 1 where
  pub fault : List ℕ → Option Fault
  pub WellFormed : List ℕ → Type 0
  pub means : List ℕ → Automaton
  pub drawn : List ℕ → Diagram
  pub Also : List ℕ → Automaton → Result (Unit {0}) Fault → Type 0

abbrev pub out_of_memory : Fault
out_of_memory = refusal OutOfMemory Sheet

abbrev pub answered : Option Fault → Result (Unit {0}) Fault
answered None = Ok tt
answered (Some f) = Err f

abbrev pub held_after : Option Fault → List ℕ → List ℕ → List ℕ
held_after None old sheet = sheet
held_after (Some f) old sheet = old

pub record Checked (f : Form) (sheet : List ℕ) (r : Result (Unit {0}) Fault) : Type 0 where
  pub answer : r ≡ answered (f.fault sheet)
  pub accepted : (r ≡ Ok tt) ↔ f.WellFormed sheet
  pub keeps : r ≡ Ok tt → (w : List ℕ) → Keeps (f.means sheet) w ↔ Accepts (f.drawn sheet) w
  pub also : (rule : Automaton) → (r ≡ Ok tt → rule ≡ f.means sheet) → f.Also sheet rule r

pub record Opened (f : Form) (sheet old new : List ℕ) (rule : Automaton) (r : Result (Unit {0}) Fault) : Type 0 where
  pub answer : r ≡ answered (f.fault sheet)
  pub held : new ≡ held_after (f.fault sheet) old sheet
  pub accepted : (r ≡ Ok tt) ↔ f.WellFormed sheet
  pub means : rule ≡ f.means new
  pub keeps : r ≡ Ok tt → (w : List ℕ) → Keeps rule w ↔ Accepts (f.drawn sheet) w
  pub also : f.Also sheet rule r

pub record Decodes (f : Form) (sheet : List ℕ) (rule : Automaton) : Type 0 where
  pub faultless : f.fault sheet ≡ None
  pub formed : f.WellFormed sheet
  pub means : rule ≡ f.means sheet
  pub keeps : (w : List ℕ) → Keeps rule w ↔ Accepts (f.drawn sheet) w

pub record Undecoded (f : Form) (sheet : List ℕ) (fault : Fault) : Type 0 where
  pub answer : (answered (f.fault sheet) ≡ Err fault) ⊎ ((f.fault sheet ≡ None) × (fault ≡ out_of_memory))
  pub formed : f.WellFormed sheet ↔ (fault ≡ out_of_memory)
  pub also : (rule : Automaton) → f.Also sheet rule (Err fault)

pub record NotCopied (f : Form) (sheet old new : List ℕ) (r : Result (Unit {0}) Fault) : Type 0 where
  pub answer : r ≡ Err out_of_memory
  pub faultless : f.fault sheet ≡ None
  pub held : new ≡ old

abbrev pub Copied : Form → List ℕ → List ℕ → List ℕ → Automaton → Result (Unit {0}) Fault → Type 0
Copied f sheet old new rule r = Opened f sheet old new rule r ⊎ (NotCopied f sheet old new r × (rule ≡ f.means new))
