-- What the bits of the sheet of a nondeterministic automaton stand for. The number of letters less one stands in 4 bits, and the
-- number of own states less one in 4. With n own states, the set of starts comes in n bits and the set of kept own states in n bits.
-- Then for each own state, and for each letter under it, comes the set of next own states in n bits. Zeros fill up the last byte.
--   own_count       the number of own states
--   start_set       the set of starts
--   kept_set        the set of kept own states
--   set_from        where the set of next own states of p under a begins if there are n own states and k letters
--   set_at          where the set of next own states of p under a begins
--   next_set        the set of next own states of p under a
--   bits_of         how many bits the sheet has before the filling if there are n own states and k letters
--   nfa_bits        how many bits the sheet has before the filling
--   nfa_bytes       how many bytes they fill
--   nfa_padding     the bits after the last set, as a number
--   set_count       the number of states of the rule: one for each set of own states; and one where there is no sheet
--   meets           whether a set has a kept own state: it has a bit in common with the set of kept own states
--   followed        the union of the next sets of a set's members
--   setwise         the automaton that a sheet writes down, each state a set of own states as a number
--   pictured        the automaton of own states as a diagram, from the single bits: own state p is a start if its bit in the set of
--                   starts is 1, it is kept if its bit in the set of kept own states is 1, and an arrow leads from p under a to q
--                   if the bit of q is 1 in the set that stands there
--   NfaWellFormed   a sheet that may be opened: it has a header, at most 10 own states, is as long as the header asks for, and
--                   every bit after the last set is 0
--   Counted         numbers of own states and of letters are those that the header of a sheet writes down, with their bounds
use Rattle.std.specs.Prelude.{◌≡◌, ℕ, ◌+◌, ◌-◌, ◌*◌, ◌/◌, ◌^◌, ◌<◌, ◌≤◌, Bool, cond, not, List, length, ◌==◌, bit_and}
use Rattle.automaton.specs.Automata.{Automaton, automaton}
use Rattle.automaton.specs.Diagrams.{Diagram}
use Rattle.sheet.specs.Bits.{bit, field}
use Rattle.sheet.specs.Layout.{letter_count}
use Rattle.sheet.specs.Sets.{union}

abbrev pub own_count : List ℕ → ℕ
own_count bs = field bs 4 4 + 1

abbrev pub start_set : List ℕ → ℕ
start_set bs = field bs 8 (own_count bs)

abbrev pub kept_set : List ℕ → ℕ
kept_set bs = field bs (8 + own_count bs) (own_count bs)

abbrev pub set_from : ℕ → ℕ → ℕ → ℕ → ℕ
set_from n k p a = 8 + n * (2 + p * k + a)

abbrev pub set_at : List ℕ → ℕ → ℕ → ℕ
set_at bs p a = set_from (own_count bs) (letter_count bs) p a

abbrev pub next_set : List ℕ → ℕ → ℕ → ℕ
next_set bs p a = field bs (set_at bs p a) (own_count bs)

abbrev pub bits_of : ℕ → ℕ → ℕ
bits_of n k = 8 + n * (2 + n * k)

abbrev pub nfa_bits : List ℕ → ℕ
nfa_bits bs = bits_of (own_count bs) (letter_count bs)

abbrev pub nfa_bytes : List ℕ → ℕ
nfa_bytes bs = (nfa_bits bs + 7) / 8

abbrev pub nfa_padding : List ℕ → ℕ
nfa_padding bs = field bs (nfa_bits bs) (8 * length bs - nfa_bits bs)

abbrev pub set_count : List ℕ → ℕ
set_count bs = cond (length bs == 0) 1 (2 ^ own_count bs)

abbrev pub meets : List ℕ → ℕ → Bool
meets bs s = not (bit_and s (kept_set bs) == 0)

abbrev pub followed : List ℕ → ℕ → ℕ → ℕ
followed bs s a = union (own_count bs) s (λ p. next_set bs p a) (own_count bs)

abbrev pub setwise : List ℕ → Automaton
setwise bs = automaton (set_count bs) (letter_count bs) (start_set bs) (meets bs) (followed bs)

abbrev pub pictured : List ℕ → Diagram
pictured bs = record {
  count = own_count bs;
  letters = letter_count bs;
  starts = λ p. (bit bs (8 + p) == 1);
  kept = λ p. (bit bs (8 + own_count bs + p) == 1);
  arrow = λ p a q. (bit bs (set_at bs p a + q) == 1);
}

pub record NfaWellFormed (bs : List ℕ) : Type 0 where
  pub headed : 1 ≤ length bs
  pub few : own_count bs ≤ 10
  pub whole : length bs ≡ nfa_bytes bs
  pub clear : (i : ℕ) → nfa_bits bs ≤ i → i < 8 * length bs → bit bs i ≡ 0

pub record Counted (bs : List ℕ) (own letters : ℕ) : Type 0 where
  pub own_states : own ≡ own_count bs
  pub all_letters : letters ≡ letter_count bs
  pub few_own : own ≤ 16
  pub few_letters : letters ≤ 16
