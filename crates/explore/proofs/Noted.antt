-- Cells by their number, and their trails.
use Rattle.std.proofs.Common.{◌≡◌, ℕ, ◌<◌, ◌≤◌, ◌⊎◌, List, [], ◌∷◌, ◌++◌, length, map, take, drop, get_or, refl, sym, subst, take-append-drop, ◌∙◌, inl, inr, arith}
use Rattle.std.proofs.Math.Nat.{eq-or-lt_of_le}
use Rattle.std.proofs.lemmas.List.{length-map}
use Rattle.std.proofs.Math.Seq.{get_or-append_seam}
use Rattle.std.proofs.lemmas.Bool.{lt-ltb}
use Rattle.std.proofs.lemmas.List.{get_or_append_left, get_or-map, get_or-take, length-take-le, map-append}
use Rattle.explore.specs.Search.{Kind, at, way}
use Rattle.explore.specs.Trails.{origin_of}
use Rattle.explore.proofs.Trails.{length_end, trail_first, trail_step, trail_stays}

module _ (S : Kind) where
  pub at_new : (cells : List S.Cell) (c : S.Cell) → at S (cells ++ (c ∷ [])) (length cells) ≡ c
  at_new cells c = get_or-append_seam cells c [] S.none

  pub at_old : (cells : List S.Cell) (c : S.Cell) (j : ℕ) → j < length cells → at S (cells ++ (c ∷ [])) j ≡ at S cells j
  at_old cells c j h = get_or_append_left cells (c ∷ []) S.none j h

  pub way_first : (cells : List S.Cell) → way S cells 0 ≡ []
  way_first cells = trail_first (map S.origin cells) (map S.letter cells)

  pub way_old : (cells : List S.Cell) (c : S.Cell) (j : ℕ) → j < length cells → way S (cells ++ (c ∷ [])) j ≡ way S cells j
  way_old cells c j h =
      rw (map-append S.origin cells (c ∷ []), map-append S.letter cells (c ∷ []))
      (trail_stays (map S.origin cells) (map S.letter cells) (S.origin c ∷ []) (S.letter c ∷ []) j j (rw (length-map cells S.origin) h) (rw (length-map cells S.letter) h))

  -- the trail of a cell: that of its origin, and its letter
  pub way_step : (cells : List S.Cell) (i : ℕ) → 0 < i → i < length cells → S.origin (at S cells i) < i → way S cells i ≡ way S cells (S.origin (at S cells i)) ++ (S.letter (at S cells i) ∷ [])
  way_step cells i z h low = trail_step (map S.origin cells) (map S.letter cells) i z ∙ rw (from, get_or-map S.letter cells i S.none 0 h) refl
    where
      origin : get_or (map S.origin cells) i 0 ≡ S.origin (at S cells i)
      origin = get_or-map S.origin cells i S.none 0 h

      from : origin_of (map S.origin cells) i ≡ S.origin (at S cells i)
      from = let e = lt-ltb (S.origin (at S cells i)) i low in rw (origin, e) refl

  pub way_new : (cells : List S.Cell) (c : S.Cell) → S.origin c < length cells → way S (cells ++ (c ∷ [])) (length cells) ≡ way S cells (S.origin c) ++ (S.letter c ∷ [])
  way_new cells c low = step ∙ rw (at_new cells c, way_old cells c (S.origin c) low) refl
    where
      more : List S.Cell
      more = cells ++ (c ∷ [])

      step : way S more (length cells) ≡ way S more (S.origin (at S more (length cells))) ++ (S.letter (at S more (length cells)) ∷ [])
      step = way_step more (length cells) (omega arith) (omega (arith, length_end cells c)) (rw (at_new cells c) low)

  -- the trail of a cell is read off the first cells, it among them
  pub way_front : (cells : List S.Cell) (j i : ℕ) → j ≤ length cells → i < j → way S (take j cells) i ≡ way S cells i
  way_front cells j i h l = sym (subst (λ (more : List S.Cell). way S more i ≡ way S (take j cells) i) (take-append-drop j cells) stays)
    where
      long : length (take j cells) ≡ j
      long = length-take-le j cells h

      stays : way S (take j cells ++ drop j cells) i ≡ way S (take j cells) i
      stays = rw (map-append S.origin (take j cells) (drop j cells), map-append S.letter (take j cells) (drop j cells))
          (trail_stays (map S.origin (take j cells)) (map S.letter (take j cells)) (map S.origin (drop j cells)) (map S.letter (drop j cells)) i i
          (omega (arith, long, length-map (take j cells) S.origin)) (omega (arith, long, length-map (take j cells) S.letter)))

  pub at_take : (cells : List S.Cell) (i j : ℕ) → j < i → at S (take i cells) j ≡ at S cells j
  at_take cells i j h = get_or-take i cells j S.none h

  -- what holds of each cell, with its number and its trail
  abbrev pub Each : (ℕ → S.Cell → List ℕ → Type 0) → List S.Cell → Type 0
  Each P cells = (j : ℕ) → j < length cells → P j (at S cells j) (way S cells j)

  pub each_more : (P : ℕ → S.Cell → List ℕ → Type 0) (cells : List S.Cell) (c : S.Cell) → Each P cells → P (length cells) c (way S (cells ++ (c ∷ [])) (length cells)) → Each P (cells ++ (c ∷ []))
  each_more P cells c all new j h = go (eq-or-lt_of_le {n = j} {m = length cells} (omega (arith, length_end cells c)))
    where
      go : (j ≡ length cells) ⊎ (j < length cells) → P j (at S (cells ++ (c ∷ [])) j) (way S (cells ++ (c ∷ [])) j)
      go (inl e) = rw (e, at_new cells c) new
      go (inr l) = rw (at_old cells c j l, way_old cells c j l) (all j l)
