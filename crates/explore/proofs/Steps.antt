-- A search step by step, and that it stays as it is when it has ended or has no cell left.
use Rattle.std.proofs.Common.{◌≡◌, ℕ, zero, suc, ◌+◌, ◌<◌, ◌≤◌, true, false, cond, ◌⊎◌, length, refl, ◌∙◌, inl, inr, add-one, arith}
use Rattle.std.specs.Prelude.{is_some, nat_lt}
use Rattle.std.proofs.Math.Nat.{eq-or-lt_of_le}
use Rattle.std.proofs.lemmas.Bool.{cases_Bool, le-ltb, lt-ltb}
use Rattle.explore.specs.Search.{Kind, Progress, at, met, spread, taken}

module _ (S : Kind) where
  pub spread_none : (s : Progress S.Cell) (x : S.Item) (i : ℕ) → spread S s x i 0 ≡ s
  unfolding spread
  spread_none s x i = refl

  pub spread_next : (s : Progress S.Cell) (x : S.Item) (i c : ℕ) → spread S s x i (c + 1) ≡ met S (spread S s x i c) (S.step x c) i c
  unfolding spread
  spread_next s x i c = rw (add-one c) refl

  -- letters after the one that ended it change nothing
  pub spread_ended : (s : Progress S.Cell) (x : S.Item) (i c d : ℕ) → c ≤ d → is_some (spread S s x i c).ended ≡ true → spread S s x i d ≡ spread S s x i c
  unfolding spread
  spread_ended s x i c zero h e = let z : c ≡ 0 = omega arith in rw z refl
  spread_ended s x i c (suc d) h e = go (eq-or-lt_of_le {n = c} {m = suc d} h) (λ l. spread_ended s x i c d l e)
    where
      go : (c ≡ suc d) ⊎ (c < suc d) → (c ≤ d → spread S s x i d ≡ spread S s x i c) → spread S s x i (suc d) ≡ spread S s x i c
      go (inl z) ih = rw z refl
      go (inr l) ih = let t = ih (omega arith) in rw (t, e) refl

  pub taken_none : (k : ℕ) (s : Progress S.Cell) → taken S k s 0 ≡ s
  unfolding taken
  taken_none k s = refl

  -- the next cell is taken
  pub taken_next : (k : ℕ) (s : Progress S.Cell) (h : ℕ) → h < length (taken S k s h).noted → taken S k s (h + 1) ≡ spread S (taken S k s h) (S.item (at S (taken S k s h).noted h)) h k
  unfolding taken
  taken_next k s h l = let e = lt-ltb h (length (taken S k s h).noted) l in rw (add-one h, e) refl

  -- where no cell is left, taking more changes nothing
  pub taken_all : (k : ℕ) (s : Progress S.Cell) (h n : ℕ) → h ≤ n → length (taken S k s h).noted ≤ h → taken S k s n ≡ taken S k s h
  unfolding taken
  taken_all k s h zero l r = let z : h ≡ 0 = omega arith in rw z refl
  taken_all k s h (suc n) l r = go (eq-or-lt_of_le {n = h} {m = suc n} l) (λ m. taken_all k s h n m r)
    where
      go : (h ≡ suc n) ⊎ (h < suc n) → (h ≤ n → taken S k s n ≡ taken S k s h) → taken S k s (suc n) ≡ taken S k s h
      go (inl z) ih = rw z refl
      go (inr m) ih = let t = ih (omega arith) in let e = le-ltb n (length (taken S k s h).noted) (omega (arith, r)) in rw (t, e) refl

  -- and so it is where the search has ended
  pub taken_ended : (k : ℕ) (s : Progress S.Cell) (h n : ℕ) → h ≤ n → is_some (taken S k s h).ended ≡ true → taken S k s n ≡ taken S k s h
  unfolding taken
  taken_ended k s h zero l e = let z : h ≡ 0 = omega arith in rw z refl
  taken_ended k s h (suc n) l e = go (eq-or-lt_of_le {n = h} {m = suc n} l) (λ m. taken_ended k s h n m e)
    where
      stays : (t : Progress S.Cell) → is_some t.ended ≡ true → (x : S.Item) → spread S t x n k ≡ t
      stays t f x = spread_ended t x n 0 k (omega arith) (rw (spread_none t x n) f) ∙ spread_none t x n

      both : (nat_lt n (length (taken S k s h).noted) ≡ true) ⊎ (nat_lt n (length (taken S k s h).noted) ≡ false) →
          cond (nat_lt n (length (taken S k s h).noted)) (spread S (taken S k s h) (S.item (at S (taken S k s h).noted n)) n k) (taken S k s h) ≡ taken S k s h
      both (inl b) = rw b (stays (taken S k s h) e _)
      both (inr b) = rw b refl

      go : (h ≡ suc n) ⊎ (h < suc n) → (h ≤ n → taken S k s n ≡ taken S k s h) → taken S k s (suc n) ≡ taken S k s h
      go (inl z) ih = rw z refl
      go (inr m) ih = let t = ih (omega arith) in rw t (both (cases_Bool (nat_lt n (length (taken S k s h).noted))))
