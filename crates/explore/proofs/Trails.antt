-- The trail of a cell: its origin's, and its letter.
use Rattle.std.proofs.Common.{◌≡◌, ℕ, zero, suc, ◌<◌, ◌≤◌, false, List, [], ◌∷◌, ◌++◌, length, refl, sym, ap, ◌∙◌, arith}
use Rattle.std.specs.Prelude.{slice_index, ◌==◌}
use Rattle.std.proofs.lemmas.Grind.{common_steps}
use Rattle.std.proofs.lemmas.List.{length-append, get_or_append_left}
use Rattle.explore.specs.Trails.{origin_of, trail_in, trail}

pub origin_before : (origins : List ℕ) (i : ℕ) → 0 < i → origin_of origins i < i
origin_before origins i h = grind (arith, common_steps)

pub length_end : {A : Type 0} (xs : List A) (x : A) → length (xs ++ (x ∷ [])) ≡ suc (length xs)
length_end xs x = length-append xs (x ∷ []) ∙ omega arith

module _ (origins letters : List ℕ) where
  first : (most : ℕ) → trail_in most origins letters 0 ≡ []
  unfolding trail_in
  first zero = refl
  first (suc most) = refl

  more : (most i : ℕ) → 0 < i → trail_in (suc most) origins letters i ≡ trail_in most origins letters (origin_of origins i) ++ (slice_index letters i ∷ [])
  unfolding trail_in
  more most i h = let e : (i == 0) ≡ false = grind (arith, common_steps) in rw e refl

  -- as many letters as the cell's number suffice
  enough : (most least i : ℕ) → i ≤ most → i ≤ least → trail_in most origins letters i ≡ trail_in least origins letters i
  enough most least zero h k = first most ∙ sym (first least)
  enough zero least (suc i) h k = absurd (omega arith)
  enough most zero (suc i) h k = absurd (omega arith)
  enough (suc most) (suc least) (suc i) h k =
      let low : origin_of origins (suc i) < suc i = origin_before origins (suc i) (omega arith) in
      more most (suc i) (omega arith)
      ∙ ap (λ t. t ++ (slice_index letters (suc i) ∷ [])) (enough most least (origin_of origins (suc i)) (omega arith) (omega arith))
      ∙ sym (more least (suc i) (omega arith))

  pub trail_first : trail origins letters 0 ≡ []
  trail_first = first 0

  pub trail_step : (i : ℕ) → 0 < i → trail origins letters i ≡ trail origins letters (origin_of origins i) ++ (slice_index letters i ∷ [])
  trail_step zero h = absurd (omega arith)
  trail_step (suc i) h =
      let low : origin_of origins (suc i) < suc i = origin_before origins (suc i) (omega arith) in
      more i (suc i) (omega arith) ∙ ap (λ t. t ++ (slice_index letters (suc i) ∷ [])) (enough i (origin_of origins (suc i)) (origin_of origins (suc i)) (omega arith) (omega arith))

  pub trail_short : (most i : ℕ) → length (trail_in most origins letters i) ≤ most
  unfolding trail_in
  trail_short most zero = let e = first most in omega (arith, ap length e)
  trail_short zero (suc i) = omega arith
  trail_short (suc most) (suc i) =
      let ih = trail_short most (origin_of origins (suc i)) in
      let e = more most (suc i) (omega arith) in
      omega (arith, ap length e, length_end (trail_in most origins letters (origin_of origins (suc i))) (slice_index letters (suc i)))

module _ (origins letters more_origins more_letters : List ℕ) where
  -- further cells leave the trail of a cell
  pub trail_stays : (most i : ℕ) → i < length origins → i < length letters →
      trail_in most (origins ++ more_origins) (letters ++ more_letters) i ≡ trail_in most origins letters i
  unfolding trail_in
  trail_stays zero i h k = refl
  trail_stays (suc most) zero h k = refl
  trail_stays (suc most) (suc i) h k =
      let low : origin_of origins (suc i) < suc i = origin_before origins (suc i) (omega arith) in
      let ih = trail_stays most (origin_of origins (suc i)) (omega arith) (omega arith) in
      rw (get_or_append_left origins more_origins 0 (suc i) h, get_or_append_left letters more_letters 0 (suc i) k, ih) refl
