-- What the bits of a table sheet stand for. The number of letters less one stands in 4 bits, and the number of states less one in 10.
-- Then for each state comes its row: one bit, which is 1 if the state is kept, and for each letter the next state in 10 bits.
-- Zeros fill up the last byte.
--   letter_count    the number of letters
--   state_count     the number of states
--   row_at          where the row of a state begins if there are k letters
--   row_start       where the row of a state begins
--   kept_in         whether a state is kept
--   next_in         the next state
--   sheet_bits      how many bits the header and the rows have
--   sheet_bytes     how many bytes they fill
--   stray_letter    the first letter under which a state has a next state that is not there
--   stray_state     the first state that has such a letter
--   padding         the bits after the last row, as a number
--   Closed          every next state is there
--   tabled          the automaton that a sheet writes down; it starts at state 0
--   drawn           the same as a diagram: state 0 alone is a start; a state is kept whose bit is 1; and an arrow leads from p
--                   under a to q if the ten bits there write q
--   WellFormed      a sheet that may be opened: it has a header, is as long as the header asks for, every next state is there, and
--                   every bit after the last row is 0
--   Headed          a size is the one that the header of a sheet writes down, with its bounds
use Rattle.std.specs.Prelude.{◌≡◌, ℕ, ◌+◌, ◌-◌, ◌*◌, ◌/◌, ◌<◌, ◌≤◌, Bool, List, length, is_some, Option, ◌==◌, nat_le}
use Rattle.automaton.specs.declared.size.Size.{Size}
use Rattle.automaton.specs.Automata.{Automaton, automaton}
use Rattle.automaton.specs.Diagrams.{Diagram}
use Rattle.sheet.specs.Bits.{bit, field, ten}
use Rattle.sheet.specs.First.{first}

abbrev pub letter_count : List ℕ → ℕ
letter_count bs = field bs 0 4 + 1

abbrev pub state_count : List ℕ → ℕ
state_count bs = field bs 4 10 + 1

abbrev pub row_at : ℕ → ℕ → ℕ
row_at k p = 14 + p * (1 + 10 * k)

abbrev pub row_start : List ℕ → ℕ → ℕ
row_start bs p = row_at (letter_count bs) p

abbrev pub kept_in : List ℕ → ℕ → Bool
kept_in bs p = field bs (row_start bs p) 1 == 1

abbrev pub next_in : List ℕ → ℕ → ℕ → ℕ
next_in bs p a = ten bs (row_start bs p + 1) a

abbrev pub sheet_bits : List ℕ → ℕ
sheet_bits bs = row_start bs (state_count bs)

abbrev pub sheet_bytes : List ℕ → ℕ
sheet_bytes bs = (sheet_bits bs + 7) / 8

abbrev pub stray_letter : List ℕ → ℕ → Option ℕ
stray_letter bs p = first (λ a. nat_le (state_count bs) (next_in bs p a)) (letter_count bs)

abbrev pub stray_state : List ℕ → Option ℕ
stray_state bs = first (λ p. is_some (stray_letter bs p)) (state_count bs)

abbrev pub padding : List ℕ → ℕ
padding bs = field bs (sheet_bits bs) (8 * length bs - sheet_bits bs)

abbrev pub Closed : List ℕ → Type 0
Closed bs = (p a : ℕ) → p < state_count bs → a < letter_count bs → next_in bs p a < state_count bs

abbrev pub tabled : List ℕ → Automaton
tabled bs = automaton (state_count bs) (letter_count bs) 0 (kept_in bs) (next_in bs)

abbrev pub drawn : List ℕ → Diagram
drawn bs = record {
  count = state_count bs;
  letters = letter_count bs;
  starts = λ p. (p == 0);
  kept = λ p. (bit bs (row_start bs p) == 1);
  arrow = λ p a q. (field bs (row_start bs p + 1 + 10 * a) 10 == q);
}

pub record WellFormed (bs : List ℕ) : Type 0 where
  pub headed : 2 ≤ length bs
  pub whole : length bs ≡ sheet_bytes bs
  pub closed : Closed bs
  pub clear : (i : ℕ) → sheet_bits bs ≤ i → i < 8 * length bs → bit bs i ≡ 0

pub record Headed (bs : List ℕ) (size : Size) : Type 0 where
  pub states : size.states ≡ state_count bs
  pub letters : size.letters ≡ letter_count bs
  pub few_states : size.states ≤ 1024
  pub few_letters : size.letters ≤ 16
