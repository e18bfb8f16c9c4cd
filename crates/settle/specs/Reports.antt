-- What is printed of two sheets, as bytes.
--   settlement_text  the line of a settlement, with its word
--   handed_text      the line of a settlement, with the word that it hands over in a buffer
--   LineOf           the line of two sheets to which no refusal applies, where there is room for a word of 4,096 letters: that of a settlement that is right, with the word
--                    that it hands over in a buffer
--   Printed          what is printed for two sheets: the line of the first refusal that applies, or if none does, that of a settlement
--   PrintedLaw       for any two sheets that is one line and no other
use Rattle.std.specs.Prelude.{◌≡◌, ◌⊎◌, ℕ, List, [], ◌++◌, Ok, Err, codes, decimal, unwrap_or}
use Rattle.automaton.specs.declared.fault.Fault.{Fault}
use Rattle.report.specs.Texts.{refused_text, side_text, word_text}
use Rattle.settlement.specs.declared.settlement.Settlement.{Settlement}
use Rattle.settlement.specs.declared.settlement.Settlement.TheVariants.{Same, Differ}
use Rattle.settlement.specs.Settlements.{Settled, room_checked, word_of}

abbrev pub settlement_text : Settlement → List ℕ → List ℕ
settlement_text (Same joins) word = codes "same " ++ (decimal joins ++ codes "\n")
settlement_text (Differ side long tried) word = codes "differ " ++ (side_text side ++ (codes " " ++ (word_text word ++ (codes " " ++ (decimal tried ++ codes "\n")))))

abbrev pub handed_text : Settlement → List ℕ → List ℕ
handed_text s buffer = settlement_text s (unwrap_or (word_of s buffer) [])

pub record LineOf (first second out : List ℕ) (s : Settlement) (buffer : List ℕ) : Type 0 where
  pub unrefused : room_checked first second 4096 ≡ Ok tt
  pub settled : Settled first second s buffer
  pub line : out ≡ handed_text s buffer

abbrev pub Printed : List ℕ → List ℕ → List ℕ → Type 0
Printed first second out =
    ((f : Fault) × (room_checked first second 4096 ≡ Err f) × (out ≡ refused_text f)) ⊎ ((s : Settlement) × (buffer : List ℕ) × LineOf first second out s buffer)

abbrev pub PrintedLaw : Type 0
PrintedLaw = (first second out other : List ℕ) → Printed first second out → Printed first second other → other ≡ out
