-- Words and their walks.
--   Over           every letter of a word is below k
--   walk           the state where the walk of a word ends, by taking the next state for each letter in turn
--   walk_from      the walk from p of the rest w of a word, whose first letter stands at position i
--   walk_answer    what walking answers: a state that is not there is refused, and then the first letter that is not there,
--                  by its position
--   resumed        the answer of a walk that was begun, at a state that is there, after so many letters: only a letter can be
--                  refused, and its position is counted from the beginning
--   text_letter    the letter that a byte of a text stands for: a to p are 0 to 15, and any other byte is 16, which no rule has
--   letter_of      the letter that a byte of a word stands for
--   bytes_of       the bytes of a word
--   of_text        the word that a text spells
--   spelled        the word that bytes spell, as numbers or as text
use Rattle.std.specs.Prelude.{ℕ, ◌+◌, ◌-◌, ◌<◌, cond, ◌&&◌, List, [], ◌∷◌, map, Ok, Err, Result, nat_le, nat_lt}
use Rattle.std.specs.List.{AllByRecursion}
use Rattle.automaton.specs.declared.fault.Fault.{Fault}
use Rattle.automaton.specs.declared.word.Word.{Word}
use Rattle.automaton.specs.declared.word.Word.TheVariants.{Numbers, Text}
use Rattle.automaton.specs.Answers.{no_letter, no_state}
use Rattle.automaton.specs.Automata.{Automaton}
use Rattle.automaton.specs.Faults.{row_of}

abbrev pub Over : ℕ → List ℕ → Type 0
Over k w = AllByRecursion (λ a. a < k) w

abbrev pub walk : Automaton → ℕ → List ℕ → ℕ
walk m p [] = p
walk m p (a ∷ w) = walk m (m.next p a) w

abbrev pub walk_from : Automaton → ℕ → ℕ → List ℕ → Result ℕ Fault
walk_from m i p [] = Ok p
walk_from m i p (a ∷ w) = cond (nat_lt a m.letters) (walk_from m (i + 1) (m.next p a) w) (Err (no_letter i))

abbrev pub walk_answer : Automaton → ℕ → List ℕ → Result ℕ Fault
walk_answer m p w = cond (nat_lt p m.count) (walk_from m 0 p w) (Err no_state)

abbrev pub resumed : ℕ → Result ℕ Fault → Result ℕ Fault
resumed i (Ok q) = Ok q
resumed i (Err f) = Err (no_letter (i + (row_of f.kind).place))

abbrev pub text_letter : ℕ → ℕ
text_letter b = cond (nat_le 97 b && nat_le b 112) (b - 97) 16

abbrev pub letter_of : Word → ℕ → ℕ
letter_of (Numbers bytes) b = b
letter_of (Text bytes) b = text_letter b

abbrev pub bytes_of : Word → List ℕ
bytes_of (Numbers bytes) = bytes.now
bytes_of (Text bytes) = bytes.now

abbrev pub of_text : List ℕ → List ℕ
of_text bytes = map text_letter bytes

abbrev pub spelled : Word → List ℕ
spelled (Numbers bytes) = bytes.now
spelled (Text bytes) = of_text bytes.now
