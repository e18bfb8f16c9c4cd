-- What a trial sale prints, as bytes.
--   answer_to     whether an automaton keeps a lot's mark
--   outcome       what a lot's line says of an answer: kept, dropped, or the place of a refusal, which judging a mark gives as the
--                 position of the first letter that the rule has not
--   lot_text      the line of a lot, and lots_text the lines of some lots
--   kept_one, dropped_one, unknown_one
--                 1 for an answer of this kind, and else 0
--   Counts        how many answers of each kind there are; counts_of is a tally so
--   tally_of      how many of some lots are kept, dropped, and of an unknown letter
--   sum_text      the last line
--   refused_text  the line of a refused sheet
--   ended_text    the line of the refusal that ended the list, which names its place; nothing if there was none
--   sale_text     the lines of a sale, of the lots that were read and of how the reading ended
--   Sold          the lines of these lots, and of this end of the list, are added, and reading the catalogue gives them
--   Sale          the lines of a sale are added to what was printed before: those of what reading the catalogue to its end gives
--   PrintedBy     all that is printed for a catalogue and a sheet of this first fault and of this automaton: for a refused sheet its line
--                 and nothing else, and else the lines of the sale
--   Printed       all that is printed for a sheet of a form and a catalogue
--   BuyerPrinted  the same for a buyer's sheet, of a table or of a nondeterministic automaton
use Rattle.std.specs.Prelude.{◌≡◌, ℕ, ◌+◌, Bool, true, false, List, [], ◌++◌, Some, None, Ok, Err, vec_items, codes, decimal, sum_by, Option, Result}
use Rattle.std.specs.List.{flat_map}
use Rattle.automaton.specs.declared.fault.Fault.{Fault}
use Rattle.automaton.specs.Automata.{Automaton}
use Rattle.automaton.specs.Faults.{row_of}
use Rattle.automaton.specs.Languages.{keeps_answer}
use Rattle.automaton.specs.Words.{of_text}
use Rattle.catalogue.specs.Lines.{LotValue}
use Rattle.catalogue.specs.Listing.{Listed}
use Rattle.sheet.specs.Forms.{Form}
use Rattle.sheet.specs.NfaOpening.{nfa_form}
use Rattle.sheet.specs.Opening.{table_form}
use Rattle.trial.specs.declared.buyer.Buyer.{Buyer}
use Rattle.trial.specs.declared.buyer.Buyer.TheVariants.{Table, Nfa}
use Rattle.trial.specs.declared.tally.Tally.{Tally}

abbrev pub answer_to : Automaton → LotValue → Result Bool Fault
answer_to m lot = keeps_answer m (of_text lot.mark)

abbrev pub outcome : Result Bool Fault → List ℕ
outcome (Ok true) = codes "kept"
outcome (Ok false) = codes "dropped"
outcome (Err f) = codes "unknown letter at " ++ decimal (row_of f.kind).place

abbrev pub lot_text : LotValue → Result Bool Fault → List ℕ
lot_text lot answer = (codes "LOT " ++ (decimal lot.number ++ codes " ")) ++ (lot.mark ++ (codes " " ++ (outcome answer ++ codes "\n")))

abbrev pub lots_text : Automaton → List LotValue → List ℕ
lots_text m lots = flat_map (λ lot. lot_text lot (answer_to m lot)) lots

abbrev pub kept_one : Result Bool Fault → ℕ
kept_one (Ok true) = 1
kept_one (Ok false) = 0
kept_one (Err f) = 0

abbrev pub dropped_one : Result Bool Fault → ℕ
dropped_one (Ok true) = 0
dropped_one (Ok false) = 1
dropped_one (Err f) = 0

abbrev pub unknown_one : Result Bool Fault → ℕ
unknown_one (Ok true) = 0
unknown_one (Ok false) = 0
unknown_one (Err f) = 1

pub record Counts : Type 0 where
  pub kept : ℕ
  pub dropped : ℕ
  pub unknown : ℕ

abbrev pub counts_of : Tally → Counts
counts_of t = record { kept = t.kept; dropped = t.dropped; unknown = t.unknown }

abbrev pub tally_of : Automaton → List LotValue → Counts
tally_of m lots = record {
  kept = sum_by (λ lot. kept_one (answer_to m lot)) lots;
  dropped = sum_by (λ lot. dropped_one (answer_to m lot)) lots;
  unknown = sum_by (λ lot. unknown_one (answer_to m lot)) lots;
}

abbrev pub sum_text : Counts → List ℕ
sum_text t =
    decimal (t.kept + t.dropped + t.unknown) ++ (codes " lots: " ++ (decimal t.kept ++ (codes " kept, " ++ (decimal t.dropped ++ (codes " dropped, " ++ (decimal t.unknown ++ codes " unknown\n"))))))

abbrev pub refused_text : Fault → List ℕ
refused_text f = codes "refused " ++ (decimal (row_of f.kind).number ++ codes "\n")

abbrev pub ended_text : Option Fault → List ℕ
ended_text None = []
ended_text (Some f) = codes "refused " ++ (decimal (row_of f.kind).number ++ (codes " at " ++ (decimal (row_of f.kind).place ++ codes "\n")))

abbrev pub sale_text : Automaton → List LotValue → Option Fault → List ℕ
sale_text m lots fault = (lots_text m lots ++ ended_text fault) ++ sum_text (tally_of m lots)

pub record Sold (m : Automaton) (text before after : List ℕ) (lots : List LotValue) (fault : Option Fault) : Type 0 where
  pub listed : Listed text lots fault
  pub printed : after ≡ before ++ sale_text m lots fault

abbrev pub Sale : Automaton → List ℕ → List ℕ → List ℕ → Type 0
Sale m text before after = (lots : List LotValue) × (fault : Option Fault) × Sold m text before after lots fault

abbrev pub PrintedBy : Option Fault → Automaton → List ℕ → List ℕ → Type 0
PrintedBy (Some f) m text out = out ≡ refused_text f
PrintedBy None m text out = Sale m text [] out

abbrev pub Printed : Form → List ℕ → List ℕ → List ℕ → Type 0
Printed form sheet text out = PrintedBy (form.fault sheet) (form.means sheet) text out

abbrev pub BuyerPrinted : Buyer → List ℕ → List ℕ → Type 0
BuyerPrinted (Table sheet) text out = Printed table_form (vec_items sheet) text out
BuyerPrinted (Nfa sheet) text out = Printed nfa_form (vec_items sheet) text out
