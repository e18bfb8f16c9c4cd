-- The search over single states.
use Rattle.std.proofs.Common.{◌≡◌, ℕ, zero, suc, ◌+◌, ◌<◌, ◌≤◌, Bool, true, false, cond, ◌||◌, ◌==◌, ◌⊎◌, List, [], ◌∷◌, ◌++◌, length, fold, refl, sym, subst, ap, ◌∙◌, inl, inr, arith}
use Rattle.std.proofs.Math.Nat.{eq-or-lt_of_le}
use Rattle.std.proofs.lemmas.Bool.{eqb-true}
use Rattle.std.proofs.lemmas.Grind.{common_steps}
use Rattle.std.proofs.lemmas.List.{get_or_default}
use Rattle.std.proofs.lemmas.List.Folds.{list_any-append, Any-from_list_any}
use Rattle.explore.specs.declared.step_cell.StepCell.{StepCell}
use Rattle.automaton.specs.Automata.{Automaton, Lawful}
use Rattle.automaton.specs.Words.{walk}
use Rattle.explore.specs.Search.{Kind, Decided, Ends, Explored, Searched, at, explore, way}
use Rattle.explore.specs.States.{EndsAt, Sought, StatesLaw, noted_state, states, unnoted}
use Rattle.explore.proofs.Invariant.{LawfulKind}
use Rattle.explore.proofs.Decided.{decided}

pub unnoted_none : (n : ℕ) → unnoted [] n ≡ n
unfolding unnoted
unnoted_none zero = refl
unnoted_none (suc n) = omega (arith, unnoted_none n)

module _ (cells : List StepCell) (c : StepCell) where
  pub noted_more : (x : ℕ) → noted_state (cells ++ (c ∷ [])) x ≡ (noted_state cells x || c.state == x)
  noted_more x = list_any-append (λ d. d.state == x) cells (c ∷ []) ∙ grind (arith, common_steps)

  unnoted_below : (n : ℕ) → n ≤ c.state → unnoted (cells ++ (c ∷ [])) n ≡ unnoted cells n
  unfolding unnoted
  unnoted_below zero h = refl
  unnoted_below (suc n) h = let ih = unnoted_below n (omega arith) in let m = noted_more n in grind (arith, common_steps)

  pub unnoted_one : (n : ℕ) → c.state < n → noted_state cells c.state ≡ false → suc (unnoted (cells ++ (c ∷ [])) n) ≡ unnoted cells n
  unfolding unnoted
  unnoted_one zero h e = absurd (omega arith)
  unnoted_one (suc n) h e = go (eq-or-lt_of_le {n = c.state} {m = n} (omega arith)) (λ k. unnoted_one n k e)
    where
      go : (c.state ≡ n) ⊎ (c.state < n) → (c.state < n → suc (unnoted (cells ++ (c ∷ [])) n) ≡ unnoted cells n) →
          suc (cond (noted_state (cells ++ (c ∷ [])) n) 0 1 + unnoted (cells ++ (c ∷ [])) n) ≡ cond (noted_state cells n) 0 1 + unnoted cells n
      go (inl k) ih = let b = unnoted_below n (omega arith) in let m = noted_more n in grind (arith, common_steps)
      go (inr k) ih = let i = ih k in let m = noted_more n in grind (arith, common_steps)

module _ (m : Automaton) (ends : ℕ → Bool) where
  abbrev S : Kind
  S = states m ends

  noted_at : (cells : List StepCell) (x : ℕ) → noted_state cells x ≡ true → (j : ℕ) × (j < length cells) × ((at S cells j).state ≡ x)
  noted_at cells x t = let r = Any-from_list_any (λ c. c.state == x) cells t in (r.0, r.2, ap (λ (c : StepCell). c.state) (get_or_default cells r.0 S.none r.1 r.2 ∙ r.3) ∙ eqb-true _ x r.4)

  states_lawful : Lawful m → LawfulKind S m.letters (λ x. x < m.count) (λ cells. unnoted cells m.count)
  states_lawful l = record {
    item_noted = λ x i a. refl;
    origin_noted = λ x i a. refl;
    letter_noted = λ x i a. refl;
    whole = λ c. refl;
    in_step = λ x a h i. l.stays x a i h;
    seen_new = λ cells c ins i. let m = noted_more cells c c.state in grind (arith, common_steps);
    seen_more = λ cells c x t. let m = noted_more cells c x in grind (arith, common_steps);
    seen_goes = λ cells ins h x i t. let r = noted_at cells x t in subst (λ (y : ℕ). ends y ≡ false) r.2 (h r.0 r.1);
    seen_step = λ old cells o ins h x a i l t. let r = noted_at old x t in subst (λ (y : ℕ). noted_state cells (m.next y a) ≡ true) r.2 (h r.0 a r.1 l);
    room = λ cells x i a ins h e. unnoted_one cells (record { state = x; origin = i; letter = a }) m.count h e;
  }

  walk_fold : (w : List ℕ) (x : ℕ) → fold m.next x w ≡ walk m x w
  walk_fold [] x = refl
  walk_fold (a ∷ w) x = walk_fold w (m.next x a)

  sought : Lawful m → (x : ℕ) → x < m.count → Sought m ends x (explore S m.letters m.count x)
  sought l x h = record {
    decided = d;
    leads = λ i j. record { over = (e.next i j).0.over; state = sym (walk_fold (way S r.noted i) x) ∙ e.leads i j };
    first = λ w o. (to w (e.first w o).0, (λ v q. (e.first w o).1 v (from v q)));
    none = λ o w q. e.none o w (from w q);
  }
    where
      r : Searched StepCell
      r = explore S m.letters m.count x

      d : Decided S m.letters m.count x (explore S m.letters m.count x)
      d = decided S m.letters m.count (λ y. y < m.count) (λ cells. unnoted cells m.count) x (states_lawful l) h (omega (arith, unnoted_none m.count))

      e : Explored S m.letters m.count x (explore S m.letters m.count x)
      e = d.explored

      to : (w : List ℕ) → Ends S m.letters x w → EndsAt m ends x w
      to w o = record { over = o.over; ended = rw (walk_fold w x) at o.ends }

      from : (w : List ℕ) → EndsAt m ends x w → Ends S m.letters x w
      from w o = record { over = o.over; ends = rw (walk_fold w x) o.ended }

pub states_law : StatesLaw
states_law m l ends x h = sought m ends l x h
