-- The worked examples, computed.
use Rattle.std.proofs.Common.{◌≡◌, ℕ, zero, suc, ◌+◌, ◌%◌, ◌<◌, ◌↔◌, Bool, true, false, List, [], ◌∷◌, cond, Option, ◌==◌, arith, ap, lit<, refl, subst, sym, ◌∙◌, Ok}
use Rattle.std.proofs.lemmas.Bool.{both_ways, eq-eqb, eqb-true}
use Rattle.std.proofs.lemmas.List.Sums.{sum_by-cons}
use Rattle.std.specs.List.{count_by}
use Rattle.automaton.specs.Automata.{Automaton, Lawful}
use Rattle.automaton.specs.Languages.{Keeps}
use Rattle.automaton.specs.Words.{Over, walk}
use Rattle.combine.specs.Bounds.{disjoint_union_lawful}
use Rattle.explore.specs.declared.pair_cell.PairCell.{PairCell}
use Rattle.explore.specs.Search.{Searched, spread, taken}
use Rattle.explore.specs.Trails.{trail_in}
use Rattle.register.specs.Calls.{found as compared}
use Rattle.register.specs.Pairs.{kept_alike}
use Rattle.register.specs.Refusals.{checked}
use Rattle.register.specs.Relations.{Agree}
use Rattle.register.specs.declared.verdict.Verdict.{Verdict}
use Rattle.register.specs.Verdicts.{verdict}
use Rattle.register.proofs.Alike.{found_alike}
use Rattle.register.proofs.Standing.{apart_law, kept_law}
use Rattle.sheet.specs.Bits.{bit, field}
use Rattle.sheet.specs.Bounds.{tabled_lawful}
use Rattle.sheet.specs.First.{first}
use Rattle.sheet.specs.Layout.{tabled}
use Rattle.sheet.specs.NfaLayout.{setwise}
use Rattle.sheet.specs.Sets.{has, union}
use Rattle.sheet.proofs.Strays.{none_closed}
use Rattle.samples.specs.Samples.{Compares, Samples, all_words, even_a, even_and_all, even_twice, one_letter, only_a}

-- Every word of a leads from state 0 to state 0.
all_kept : (w : List ℕ) → Over 1 w → Keeps (tabled one_letter) w
unfolding bit field
all_kept w o = record { over = o; kept = kept w o }
  where
    kept : (w : List ℕ) → Over 1 w → (tabled one_letter).kept (walk (tabled one_letter) 0 w) ≡ true
    kept [] o = refl
    kept (zero ∷ w) o = kept w o.1
    kept (suc a ∷ w) o = let below = o.0 in absurd (omega arith)

-- How often the letter 0 stands in a word.
abbrev zeros : List ℕ → ℕ
zeros w = count_by (λ a. a == 0) w

abbrev even_from : ℕ → List ℕ → Bool
even_from p w = (tabled even_a).kept (walk (tabled even_a) p w)

-- From state 0 a kept state is reached by an even number of the letter 0, and from state 1 by an odd one.
parity : (w : List ℕ) → Over 2 w → (even_from 0 w ≡ (zeros w % 2 == 0)) × (even_from 1 w ≡ ((zeros w + 1) % 2 == 0))
unfolding bit field
parity [] o = (refl, refl)
parity (zero ∷ w) o =
    let more : zeros (0 ∷ w) ≡ 1 + zeros w = sum_by-cons (λ a. cond (a == 0) 1 0) 0 w in
    let twice : (zeros (0 ∷ w) + 1) % 2 ≡ zeros w % 2 = omega arith in
    let once : zeros (0 ∷ w) % 2 ≡ (zeros w + 1) % 2 = omega arith in
    ((parity w o.1).1 ∙ ap (λ n. n == 0) (sym once), (parity w o.1).0 ∙ ap (λ n. n == 0) (sym twice))
parity (suc zero ∷ w) o = parity w o.1
parity (suc (suc a) ∷ w) o = let below = o.0 in absurd (omega arith)

even_kept : (w : List ℕ) → Over 2 w → Keeps (tabled even_a) w ↔ (zeros w % 2 ≡ 0)
unfolding bit field
even_kept w o = ((λ k. eqb-true _ 0 (sym (parity w o).0 ∙ k.kept)), (λ e. record { over = o; kept = (parity w o).0 ∙ eq-eqb _ 0 e }))

-- The empty set leads to itself.
none_left : (w : List ℕ) → Over 1 w → (setwise only_a).kept (walk (setwise only_a) 0 w) ≡ false
unfolding bit field has union
none_left [] o = refl
none_left (zero ∷ w) o = none_left w o.1
none_left (suc a ∷ w) o = let below = o.0 in absurd (omega arith)

alone : (w : List ℕ) → Keeps (setwise only_a) w → w ≡ 0 ∷ []
unfolding bit field has union
alone [] k = absurd (both_ways _ refl k.kept)
alone (zero ∷ []) k = refl
alone (zero ∷ (zero ∷ w)) k = absurd (both_ways _ (none_left w k.over.1.1) k.kept)
alone (zero ∷ (suc a ∷ w)) k = let below = k.over.1.0 in absurd (omega arith)
alone (suc a ∷ w) k = let below = k.over.0 in absurd (omega arith)

a_kept : (w : List ℕ) → w ≡ 0 ∷ [] → Keeps (setwise only_a) w
unfolding bit field has union
a_kept w e = subst (λ (v : List ℕ). Keeps (setwise only_a) v) (sym e) (record { over = (lit< tt, tt); kept = refl })

-- Where no two different states are joined, comparing gives what it gives over equality.
over_equals : (m : Automaton) → Lawful m → (p q : ℕ) → p < m.count → q < m.count → (J : ℕ → ℕ → Bool) → Agree m.count J (λ x y. x == y) → compared m J p q ≡ compared m (λ x y. x == y) p q
over_equals m l p q hp hq J a =
    found_alike m l (kept_alike m) (kept_law.equivalence m) J (λ x y. x == y) (apart_law m l (kept_alike m) (kept_law.equivalence m) J a).held.standing a p q hp hq

-- So the answer is known from a computation over equality.
compares : (m : Automaton) → Lawful m → (p q : ℕ) → p < m.count → q < m.count → (answer : Verdict) (cells : List PairCell) (word : Option (List ℕ)) →
    compared m (λ x y. x == y) p q ≡ record { noted = cells; word = word } → checked m.count p q m.count m.count (verdict m p q (record { noted = cells; word = word })) ≡ Ok answer → Compares m p q answer cells word
compares m l p q hp hq answer cells word e v J a =
    let found = over_equals m l p q hp hq J a ∙ e in
    (found, ap (λ (r : Searched PairCell). checked m.count p q m.count m.count (verdict m p q r)) found ∙ v)

even_lawful : Lawful (tabled even_a)
unfolding bit field first
even_lawful = tabled_lawful even_a (none_closed even_a refl)

all_lawful : Lawful (tabled all_words)
unfolding bit field first
all_lawful = tabled_lawful all_words (none_closed all_words refl)

pub samples : Samples
unfolding bit field first has union spread taken trail_in
samples = record {
  one_letter_accepted = refl;
  one_letter_letters = refl;
  one_letter_states = refl;
  one_letter_keeps = all_kept;
  even_accepted = refl;
  even_letters = refl;
  even_keeps = even_kept;
  same = compares even_twice (disjoint_union_lawful _ _ even_lawful even_lawful) 0 2 (lit< tt) (lit< tt) _ _ _ refl refl;
  all_accepted = refl;
  differ = compares even_and_all (disjoint_union_lawful _ _ even_lawful all_lawful) 0 2 (lit< tt) (lit< tt) _ _ _ refl refl;
  only_a_accepted = refl;
  only_a_start = refl;
  only_a_keeps = λ w. (alone w, a_kept w);
  odd_first = refl;
  odd_found = refl;
  even_first = refl;
  even_found = refl;
  wrong_length = refl;
  padding_set = refl;
  stray_target = refl;
  too_many_own = refl;
}
