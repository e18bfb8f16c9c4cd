-- What the programs print of a side, of a word and of a refusal, as bytes.
--   side_text     the name of a side
--   letter_text   the letter of a number: a to p for 0 to 15; no rule has a higher one, and `?` stands for it
--   word_text     a word in letters, and `-` for the empty one
--   refused_text  the line of a refusal
use Rattle.std.specs.Prelude.{ℕ, ◌+◌, cond, List, [], ◌∷◌, ◌++◌, codes, decimal, nat_lt}
use Rattle.std.specs.List.{flat_map}
use Rattle.automaton.specs.declared.fault.Fault.{Fault}
use Rattle.automaton.specs.declared.side.Side.{Side}
use Rattle.automaton.specs.declared.side.Side.TheVariants.{Neither, First, Second, Pair}
use Rattle.automaton.specs.Faults.{row_of}

abbrev pub side_text : Side → List ℕ
side_text Neither = codes "neither"
side_text First = codes "first"
side_text Second = codes "second"
side_text Pair = codes "pair"

abbrev pub letter_text : ℕ → List ℕ
letter_text a = cond (nat_lt a 16) ((97 + a) ∷ []) (codes "?")

abbrev pub word_text : List ℕ → List ℕ
word_text [] = codes "-"
word_text (a ∷ w) = flat_map letter_text (a ∷ w)

abbrev pub refused_text : Fault → List ℕ
refused_text f = codes "refused " ++ (side_text f.side ++ (codes " " ++ (decimal (row_of f.kind).number ++ codes "\n")))
