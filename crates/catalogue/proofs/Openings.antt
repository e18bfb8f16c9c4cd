-- A text that leaves the opening LOT and a space is stuck there.
use Rattle.std.proofs.Common.{◌≡◌, ℕ, suc, ◌<◌, ◌≤◌, List, [], ◌∷◌, ◌++◌, length, get_or, take, drop, ◌⊎◌, inl, inr, sym, refl, ap, ◌∙◌, arith, lit≤}
use Rattle.std.proofs.lemmas.Bool.{cases_lt}
use Rattle.std.proofs.lemmas.Grind.{same_number_lists}
use Rattle.std.proofs.lemmas.List.{get_or_append_left, get_or-take, length-take-le, take-append-drop, take-append-le}
use Rattle.catalogue.specs.Lines.{Begins, Mark, Number, Stuck, line, opened}

-- the shortest line, which every beginning of the opening begins
one : Number (49 ∷ [])
one = record { some = lit≤ tt; few = lit≤ tt; all = (refl, tt); first = λ e. omega arith }

pub mark_a : Mark (97 ∷ [])
mark_a = record { some = lit≤ tt; all = (refl, tt) }

pub begun_by : (l more : List ℕ) → l ++ more ≡ line (49 ∷ []) (97 ∷ []) → Begins l
begun_by l more e = (more, 49 ∷ [], 97 ∷ [], record { number = one; mark = mark_a; is = e })

before : (k : ℕ) → k ≤ 4 → Begins (take k (opened []))
before k h =
    let after : List ℕ = 49 ∷ 32 ∷ 97 ∷ 10 ∷ [] in
    begun_by (take k (opened [])) (drop k (opened after)) (ap (λ (t : List ℕ). t ++ drop k (opened after)) (sym (take-append-le k (opened []) after h)) ∙ take-append-drop k (opened after))

-- a text that agrees with the opening in k bytes, and leaves it there or ends
pub record Leaves (text : List ℕ) (k : ℕ) : Type 0 where
  pub within : k ≤ length text
  pub few : k ≤ 4
  pub agrees : (i : ℕ) → i < k → get_or text i 0 ≡ get_or (opened []) i 0
  pub differs : k < length text → k < 4 → get_or text k 0 ≡ get_or (opened []) k 0 → ⊥
  pub unopened : 4 ≤ length text → get_or text 0 0 ≡ 76 → get_or text 1 0 ≡ 79 → get_or text 2 0 ≡ 84 → get_or text 3 0 ≡ 32 → ⊥

short : (text : List ℕ) (k : ℕ) → Leaves text k → k < 4
short text k l = go (cases_lt k 4)
  where
    go : (k < 4) ⊎ (4 ≤ k) → k < 4
    go (inl h) = h
    go (inr h) = absurd (l.unopened (omega (arith, l.within)) (l.agrees 0 (omega arith)) (l.agrees 1 (omega arith)) (l.agrees 2 (omega arith)) (l.agrees 3 (omega arith)))

pub stuck_leaving : (text : List ℕ) (k : ℕ) → Leaves text k → Stuck text k
stuck_leaving text k l =
    let below = short text k l in
    let long : length (take k text) ≡ k = length-take-le k text l.within in
    let opening : length (take k (opened [])) ≡ k = length-take-le k (opened []) l.few in
    let front : take k text ≡ take k (opened []) =
    same_number_lists (take k text) (take k (opened [])) (omega (arith, long, opening)) (λ i h.
    let b : i < k = omega (arith, long) in
    get_or-take k text i 0 b ∙ l.agrees i b ∙ sym (get_or-take k (opened []) i 0 b)) in
    record {
      within = l.within;
      begun = rw front (before k l.few);
      unfinished = λ ds m h. let e = ap length h.is in omega (arith, long, e);
      bad = λ h (more, ds, m, b).
          let n : k < length (take (suc k) text) = omega (arith, length-take-le (suc k) text h) in
          let last : k < suc k = omega arith in
          l.differs h below
          (sym (get_or_append_left (take (suc k) text) more 0 k n ∙ get_or-take (suc k) text k 0 last) ∙ ap (λ (t : List ℕ). get_or t k 0) b.is
          ∙ get_or_append_left (opened []) (ds ++ 32 ∷ (m ++ 10 ∷ [])) 0 k below);
    }
