-- What is said of the automata on two sheets is said of what is drawn on them.
use Rattle.std.proofs.Common.{◌≡◌, ℕ, ◌*◌, ◌≤◌, arith, true, false, ◌⊎◌, ◌==◌, List, [], Ok, Err, Result, sym, subst, inl, inr}
use Rattle.std.specs.Prelude.{IfErr, IfOk, nat_le, unwrap_or}
use Rattle.std.proofs.lemmas.Bool.{cases_Bool, eqb-true, leb-true}
use Rattle.std.proofs.lemmas.Grind.{common_steps}
use Rattle.automaton.specs.declared.fault.Fault.{Fault}
use Rattle.automaton.specs.declared.size.Size.{Size}
use Rattle.automaton.specs.Answers.{size_answer}
use Rattle.automaton.specs.Automata.{Automaton}
use Rattle.automaton.specs.Diagrams.{Accepts}
use Rattle.automaton.specs.Faults.{and_then}
use Rattle.automaton.specs.Languages.{Keeps}
use Rattle.combine.specs.Combined.{fit_answer, most_states, pairs}
use Rattle.combine.specs.Laws.{Fit, FitPairs}
use Rattle.explore.specs.Written.{if_answered, over}
use Rattle.search.specs.declared.relation.Relation.{Relation}
use Rattle.search.specs.FirstKept.{handed}
use Rattle.search.specs.Relations.{Related, checked, only, related, relation_value}
use Rattle.search.proofs.Relations.{related_alike}
use Rattle.settlement.specs.Openings.{OnSheet}
use Rattle.settlement.specs.Relations.{SheetsRelated, Unrelated, relation_checked}
use Rattle.sheet.specs.Layout.{drawn, tabled}
use Rattle.sheet.proofs.Drawings.{keeps_drawn}

-- Two rules are not refused alone if they fit.
fit_if_ok : {S T : Type 0} (k l n : ℕ) (s : S) (go_on : S → Result T Fault) (r : T) → and_then (fit_answer k l n s) go_on ≡ Ok r → Fit k l n
fit_if_ok k l n s go_on r e = go (cases_Bool (k == l)) (cases_Bool (nat_le n most_states))
  where
    go : ((k == l) ≡ true) ⊎ ((k == l) ≡ false) → (nat_le n most_states ≡ true) ⊎ (nat_le n most_states ≡ false) → Fit k l n
    go (inl same) (inl few) = record { same = eqb-true k l same; few = leb-true n most_states few }
    go (inl same) (inr many) = cc (rw (same, many) at e)
    go (inr other) few = cc (rw other at e)

-- As many cells as there are pairs of states are as good as 4,096.
cells_suffice : {T : Type 0} (m n : Automaton) (c d i j : ℕ) (x : T) (r : Result T Fault) → r ≡ checked m n c d i j x → (pairs m n ≤ 4096 → pairs m n ≤ c) → (pairs m n ≤ 4096 → pairs m n ≤ d) →
    r ≡ checked m n 4096 4096 i j x
cells_suffice m n c d i j x r e h k = grind (arith, common_steps)

pub room_there : (m n a b k v l : ℕ) (s t : Size) → s ≡ size_answer m a → t ≡ size_answer n b → (s.states * t.states ≤ 4096 → s.states * t.states ≤ k) → v ≡ k → l ≡ v → m * n ≤ 4096 → m * n ≤ l
room_there m n a b k v l s t e f h i j few =
    let there : m * n ≤ k = (rw (e, f) at h) few in
    omega (arith, there, i, j)

module _ (first second : List ℕ) (x y : Automaton) (a : OnSheet first x) (b : OnSheet second y) where
  -- what holds of the two automata holds of those on the sheets
  moved : (P : Automaton → Automaton → Type 0) → P x y → P (tabled first) (tabled second)
  moved P h = subst (λ (z : Automaton). P (tabled first) z) b.means (subst (λ (z : Automaton). P z y) a.means h)

  -- the answer is that to the two automata
  answer : (i j : ℕ) (r : Result Relation Fault) → r ≡ checked x y 4096 4096 i j (related x y) → relation_checked first second i j ≡ r
  answer i j r e = rw (a.faultless, b.faultless) (sym (moved (λ m n. r ≡ checked m n 4096 4096 i j (related m n)) e))

  -- with c and d cells for the two searches, and buffers of i and j bytes
  module _ (c d i j : ℕ) (r : Result Relation Fault) (e : r ≡ checked x y c d i j (related x y)) (h : pairs x y ≤ 4096 → pairs x y ≤ c) (k : pairs x y ≤ 4096 → pairs x y ≤ d) where
    same : relation_checked first second i j ≡ r
    same = answer i j r (cells_suffice x y c d i j (related x y) r e h k)

    pub answered : IfOk r (λ v. relation_checked first second i j ≡ Ok v)
    answered = go r same
      where
        go : (s : Result Relation Fault) → relation_checked first second i j ≡ s → IfOk s (λ v. relation_checked first second i j ≡ Ok v)
        go (Ok v) f = f
        go (Err f) g = tt

    pub refused : IfErr r (λ f. Unrelated first second i j f)
    refused = go r same
      where
        go : (s : Result Relation Fault) → relation_checked first second i j ≡ s → IfErr s (λ f. Unrelated first second i j f)
        go (Ok v) f = tt
        go (Err f) g = inl g

    pub sheets_related : (first_word second_word : List ℕ) →
        IfOk r (λ v. Related (Keeps x) (Keeps y) v (handed (relation_value v).only_first first_word) (handed (relation_value v).only_second second_word)) →
        IfOk r (λ v. SheetsRelated first second v first_word second_word)
    sheets_related first_word second_word l = go r e l
      where
        go : (s : Result Relation Fault) → s ≡ checked x y c d i j (related x y) →
            IfOk s (λ v. Related (Keeps x) (Keeps y) v (handed (relation_value v).only_first first_word) (handed (relation_value v).only_second second_word)) →
            IfOk s (λ v. SheetsRelated first second v first_word second_word)
        go (Err f) g l = tt
        go (Ok v) g l = record {
          first_formed = a.formed;
          second_formed = b.formed;
          fit = moved FitPairs (fit_if_ok _ _ _ _ _ v (sym g));
          related = related_alike (Keeps (tabled first)) (Keeps (tabled second)) (Accepts (drawn first)) (Accepts (drawn second)) (keeps_drawn first a.formed.closed) (keeps_drawn second b.formed.closed) v _ _
              (moved (λ m n. Related (Keeps m) (Keeps n) v (handed (relation_value v).only_first first_word) (handed (relation_value v).only_second second_word)) l);
        }

  -- and the words are those of the two automata
  pub first_written : {T : Type 0} (r : Result T Fault) (old new : List ℕ) → new ≡ if_answered r (over (unwrap_or (only x y).word []) old) old →
      new ≡ if_answered r (over (unwrap_or (only (tabled first) (tabled second)).word []) old) old
  first_written r old new e = moved (λ m n. new ≡ if_answered r (over (unwrap_or (only m n).word []) old) old) e

  pub second_written : {T : Type 0} (r : Result T Fault) (old new : List ℕ) → new ≡ if_answered r (over (unwrap_or (only y x).word []) old) old →
      new ≡ if_answered r (over (unwrap_or (only (tabled second) (tabled first)).word []) old) old
  second_written r old new e = moved (λ m n. new ≡ if_answered r (over (unwrap_or (only n m).word []) old) old) e
