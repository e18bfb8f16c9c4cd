-- Automata made out of automata.
--   complement          the same automaton, with the kept answer of each state reversed
--   product             its states are the pairs of states: state a of the first with state b of the second has the number
--                       a × (states of the second) + b; the start is the two starts, a step is a step in each, and a pair is
--                       kept if both of its states are
--   beside              the first's states, and then the second's, which are raised by the number of the first's; the start is
--                       the first's, and each state steps and is kept as in its own automaton
--   most_states         how many states a combination may have
--   misfit              the refusal of two rules that do not fit, by its kind
--   letters_differ      the refusal of two rules with different numbers of letters
--   too_many_states     the refusal of a combination that would have too many states
--   fit                 whether rules of k and of l letters fit in a combination of so many states: k and l are equal, and the states
--                       are not too many
--   fit_answer          the answer to that, which hands on x, or else the refusal; the letters are looked at first
--   pairs, sum          how many states the product and the disjoint union of two automata have
--   intersection        the product of two automata that fit, and else the blank automaton
--   disjoint_union      two automata beside each other if they fit, and else the blank automaton
--   difference          the intersection of the first with the complement of the second
use Rattle.std.specs.Prelude.{ℕ, ◌+◌, ◌-◌, ◌*◌, ◌/◌, ◌%◌, Bool, false, cond, not, ◌&&◌, Ok, Err, Result, ◌==◌, nat_le, nat_lt}
use Rattle.automaton.specs.declared.fault.Fault.{Fault}
use Rattle.automaton.specs.declared.kind.FaultKind.{FaultKind}
use Rattle.automaton.specs.declared.kind.FaultKind.TheVariants.{LettersDiffer, TooManyStates}
use Rattle.automaton.specs.declared.layer.Layer.TheVariants.{Combined}
use Rattle.automaton.specs.declared.side.Side.TheVariants.{Pair}
use Rattle.automaton.specs.Automata.{Automaton, automaton, blank}
use Rattle.automaton.specs.Faults.{refusal, sided}

abbrev pub complement : Automaton → Automaton
complement m = automaton m.count m.letters m.start (λ p. not (m.kept p)) m.next

abbrev pub product : Automaton → Automaton → Automaton
product m n = automaton
    (m.count * n.count)
    m.letters
    (m.start * n.count + n.start)
    (λ p. m.kept (p / n.count) && n.kept (p % n.count))
    (λ p a. m.next (p / n.count) a * n.count + n.next (p % n.count) a)

abbrev pub beside : Automaton → Automaton → Automaton
beside m n = automaton
    (m.count + n.count)
    m.letters
    m.start
    (λ p. cond (nat_lt p m.count) (m.kept p) (n.kept (p - m.count)))
    (λ p a. cond (nat_lt p m.count) (m.next p a) (m.count + n.next (p - m.count) a))

abbrev pub most_states : ℕ
most_states = 4096

abbrev pub misfit : FaultKind → Fault
misfit k = sided Pair (refusal k Combined)

abbrev pub letters_differ : Fault
letters_differ = misfit LettersDiffer

abbrev pub too_many_states : Fault
too_many_states = misfit TooManyStates

abbrev pub fit : ℕ → ℕ → ℕ → Bool
fit k l states = cond (k == l) (nat_le states most_states) false

abbrev pub fit_answer : {T : Type 0} → ℕ → ℕ → ℕ → T → Result T Fault
fit_answer k l states x = cond (k == l) (cond (nat_le states most_states) (Ok x) (Err too_many_states)) (Err letters_differ)

abbrev pub pairs : Automaton → Automaton → ℕ
pairs m n = m.count * n.count

abbrev pub sum : Automaton → Automaton → ℕ
sum m n = m.count + n.count

abbrev pub intersection : Automaton → Automaton → Automaton
intersection m n = cond (fit m.letters n.letters (pairs m n)) (product m n) blank

abbrev pub disjoint_union : Automaton → Automaton → Automaton
disjoint_union m n = cond (fit m.letters n.letters (sum m n)) (beside m n) blank

abbrev pub difference : Automaton → Automaton → Automaton
difference m n = intersection m (complement n)
