-- The trail of each noted cell leads to its item, whatever was seen before the search.
use Rattle.std.proofs.Common.{◌≡◌, ℕ, zero, suc, ◌<◌, ◌≤◌, true, false, ◌||◌, ◌⊎◌, List, [], ◌∷◌, ◌++◌, length, fold, Some, refl, sym, ap, ◌∙◌, inl, inr, arith}
use Rattle.std.specs.Prelude.{cond, is_some, nat_lt}
use Rattle.std.proofs.Math.Nat.{eq-or-lt_of_le}
use Rattle.std.proofs.lemmas.Bool.{cases_Bool, ltb-true}
use Rattle.std.proofs.lemmas.List.Sums.{fold-append}
use Rattle.std.proofs.lemmas.Option.{none-some, same_Some}
use Rattle.explore.specs.Search.{Kind, Progress, at, begun, met, spread, taken, way}
use Rattle.explore.proofs.Noted.{at_new, at_old, way_first, way_new, way_old}
use Rattle.explore.proofs.Trails.{length_end}

-- a cell has the item, the origin and the letter that it was made of
pub record Faithful (S : Kind) : Type 0 where
  pub item_noted : (x : S.Item) (i a : ℕ) → S.item (S.cell x i a) ≡ x
  pub origin_noted : (x : S.Item) (i a : ℕ) → S.origin (S.cell x i a) ≡ i
  pub letter_noted : (x : S.Item) (i a : ℕ) → S.letter (S.cell x i a) ≡ a

module _ (S : Kind) (x₀ : S.Item) (k : ℕ) where
  abbrev Lead : List S.Cell → Type 0
  Lead cells = (j : ℕ) → j < length cells → fold S.step x₀ (way S cells j) ≡ S.item (at S cells j)

  -- and a search that has ended has done so at a cell that is noted, by a letter below k
  pub record Tracked (s : Progress S.Cell) : Type 0 where
    pub leads : Lead s.noted
    pub ended : (i a : ℕ) → s.ended ≡ Some (i, a) → (i < length s.noted) × (a < k)

  -- while the letters of cell i are taken
  pub record Row (x : S.Item) (i : ℕ) (s : Progress S.Cell) : Type 0 where
    pub tracked : Tracked s
    pub within : i < length s.noted
    pub same : S.item (at S s.noted i) ≡ x

  module _ (f : Faithful S) where
    one_more : (x : S.Item) (i c : ℕ) (s : Progress S.Cell) → Row x i s → Lead (s.noted ++ (S.cell (S.step x c) i c ∷ []))
    one_more x i c s r j h = go (eq-or-lt_of_le {n = j} {m = length s.noted} (omega (arith, length_end s.noted new)))
      where
        new : S.Cell
        new = S.cell (S.step x c) i c

        new_way : way S (s.noted ++ (new ∷ [])) (length s.noted) ≡ way S s.noted i ++ (c ∷ [])
        new_way = way_new S s.noted new (rw (f.origin_noted (S.step x c) i c) r.within) ∙ rw (f.origin_noted (S.step x c) i c, f.letter_noted (S.step x c) i c) refl

        go : (j ≡ length s.noted) ⊎ (j < length s.noted) → fold S.step x₀ (way S (s.noted ++ (new ∷ [])) j) ≡ S.item (at S (s.noted ++ (new ∷ [])) j)
        go (inl e) = rw (e, new_way, at_new S s.noted new, f.item_noted (S.step x c) i c)
            (fold-append S.step x₀ (way S s.noted i) (c ∷ []) ∙ ap (λ y. S.step y c) (r.tracked.leads i r.within ∙ r.same))
        go (inr l) = rw (way_old S s.noted new j l, at_old S s.noted new j l) (r.tracked.leads j l)

    met_row : (x : S.Item) (i c : ℕ) (s : Progress S.Cell) → c < k → Row x i s → Row x i (met S s (S.step x c) i c)
    met_row x i c s h r = go (cases_Bool (is_some s.ended || S.seen s.noted (S.step x c))) (cases_Bool (S.ends (S.step x c)))
      where
        go : ((is_some s.ended || S.seen s.noted (S.step x c)) ≡ true) ⊎ ((is_some s.ended || S.seen s.noted (S.step x c)) ≡ false) → (S.ends (S.step x c) ≡ true) ⊎ (S.ends (S.step x c) ≡ false) →
            Row x i (met S s (S.step x c) i c)
        go (inl t) e = rw t r
        go (inr t) (inl e) = rw (t, e) record {
          tracked = record { leads = r.tracked.leads; ended = λ j a q. let z = same_Some _ _ q in let u : i ≡ j = ap (λ y. y.0) z in let v : c ≡ a = ap (λ y. y.1) z in (omega (arith, u, r.within), omega (arith, v, h)) };
          within = r.within;
          same = r.same;
        }
        go (inr t) (inr e) = rw (t, e) record {
          tracked = record { leads = one_more x i c s r; ended = λ j a q. absurd (none-some _ q) };
          within = omega (arith, r.within, length_end s.noted (S.cell (S.step x c) i c));
          same = ap S.item (at_old S s.noted (S.cell (S.step x c) i c) i r.within) ∙ r.same;
        }

    spread_row : (x : S.Item) (i c : ℕ) (s : Progress S.Cell) → c ≤ k → Row x i s → Row x i (spread S s x i c)
    unfolding spread
    spread_row x i zero s h r = r
    spread_row x i (suc c) s h r = met_row x i c (spread S s x i c) (omega arith) (spread_row x i c s (omega arith) r)

    taken_tracked : (s : Progress S.Cell) (h : ℕ) → Tracked s → Tracked (taken S k s h)
    unfolding taken
    taken_tracked s zero t = t
    taken_tracked s (suc h) t = go (cases_Bool (nat_lt h (length (taken S k s h).noted))) (taken_tracked s h t)
      where
        u : Progress S.Cell
        u = taken S k s h

        go : (nat_lt h (length u.noted) ≡ true) ⊎ (nat_lt h (length u.noted) ≡ false) → Tracked u →
            Tracked (cond (nat_lt h (length u.noted)) (spread S u (S.item (at S u.noted h)) h k) u)
        go (inl e) v = rw e (spread_row (S.item (at S u.noted h)) h k u (omega arith) record { tracked = v; within = ltb-true h (length u.noted) e; same = refl }).tracked
        go (inr e) v = rw e v

    pub tracked : (n : ℕ) → Tracked (taken S k (begun S x₀) n)
    tracked n = taken_tracked (begun S x₀) n record { leads = λ j h. let z : j ≡ 0 = omega (arith, h) in rw (z, way_first S (S.cell x₀ 0 0 ∷ [])) (sym (f.item_noted x₀ 0 0)); ended = λ i a q. absurd (none-some _ q) }
