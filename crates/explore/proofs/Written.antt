-- What the walk back along a trail has written so far.
use Rattle.std.proofs.Common.{◌≡◌, ℕ, ◌<◌, ◌≤◌, ◌+◌, List, [], ◌∷◌, ◌++◌, length, map, reverse, take, drop, get_or, set, suc, drop-cons, take-append-drop, append_assoc, sym, ap, ◌∙◌, refl, arith}
use Rattle.std.specs.Prelude.{slice_index}
use Rattle.std.proofs.lemmas.Grind.{common_steps}
use Rattle.std.proofs.lemmas.List.{append-nil, get_or-map, length-reverse, length-take-le, reverse-append, take_more_set}
use Rattle.std.proofs.Math.Seq.{set-append_seam}
use Rattle.explore.specs.Trails.{origin_of, trail_of}
use Rattle.explore.specs.Written.{over}
use Rattle.explore.proofs.Trails.{length_end, trail_first, trail_short, trail_step}

-- what is read off each cell, read off cell i
pub map_at : {C : Type 0} (read : C → ℕ) (cells : List C) (i : ℕ) (c : C) → i < length cells → c ≡ get_or cells i c → slice_index (map read cells) i ≡ read c
map_at read cells i c low is = get_or-map read cells i c 0 low ∙ ap read (sym is)

module _ {C : Type 0} (reached_from reached_by : C → ℕ) (cells : List C) where
  -- the trail of a cell, read from its end
  trail_back : (i : ℕ) → 0 < i → reverse (trail_of reached_from reached_by cells i) ≡ slice_index (map reached_by cells) i ∷ reverse (trail_of reached_from reached_by cells (origin_of (map reached_from cells) i))
  trail_back i h = rw (trail_step (map reached_from cells) (map reached_by cells) i h, reverse-append) refl

  -- one more letter is written, and the walk goes on from the origin
  pub back_more : (i n : ℕ) (c : C) (spare back : List ℕ) → 0 < i → i < length cells → c ≡ get_or cells i c → n < length spare →
      take n spare ++ reverse (trail_of reached_from reached_by cells i) ≡ back →
      take (n + 1) (set spare n (reached_by c)) ++ reverse (trail_of reached_from reached_by cells (origin_of (map reached_from cells) i)) ≡ back
  back_more i n c spare back h low is room e =
      let s : reverse (trail_of reached_from reached_by cells i) ≡ reached_by c ∷ reverse (trail_of reached_from reached_by cells (origin_of (map reached_from cells) i)) = trail_back i h ∙ ap (λ a. a ∷ reverse (trail_of reached_from reached_by cells (origin_of (map reached_from cells) i))) (map_at reached_by cells i c low is) in
      rw (take_more_set spare n (reached_by c) room, append_assoc) (rw s at e)

  -- at cell 0 all are written
  back_done : (i n : ℕ) (spare back : List ℕ) → i ≤ 0 → take n spare ++ reverse (trail_of reached_from reached_by cells i) ≡ back → take n spare ≡ back
  back_done i n spare back zero e =
      let first : i ≡ 0 = omega arith in
      sym (append-nil (take n spare)) ∙ rw (first, trail_first (map reached_from cells) (map reached_by cells)) at e

  pub back_long : (i n : ℕ) (spare t : List ℕ) → i ≤ 0 → n ≤ length spare → take n spare ++ reverse (trail_of reached_from reached_by cells i) ≡ reverse t → n ≡ length t
  back_long i n spare t zero room e = sym (length-take-le n spare room) ∙ ap length (back_done i n spare (reverse t) zero e) ∙ length-reverse t

  pub back_all : (i n : ℕ) (spare old t : List ℕ) → i ≤ 0 → n ≤ length spare → drop n spare ≡ drop n old →
      take n spare ++ reverse (trail_of reached_from reached_by cells i) ≡ reverse t → spare ≡ over (reverse t) old
  back_all i n spare old t zero room behind e =
      let done : take n spare ≡ reverse t = back_done i n spare (reverse t) zero e in
      let long : length (reverse t) ≡ n = length-reverse t ∙ sym (back_long i n spare t zero room e) in
      sym (take-append-drop n spare) ∙ rw (done, behind, long) refl

  -- there are no more letters than cells before it
  pub trail_within : (i : ℕ) → length (trail_of reached_from reached_by cells i) ≤ i
  trail_within i = trail_short (map reached_from cells) (map reached_by cells) i i

-- one letter more is written behind a word
pub over_more : (w old : List ℕ) (a : ℕ) → length w < length old → set (over w old) (length w) a ≡ over (w ++ (a ∷ [])) old
over_more w old a room = rw (drop-cons old (length w) 0 room, set-append_seam w (get_or old (length w) 0) (drop (suc (length w)) old) a, append_assoc, length_end w a) refl

pub ruleset walks_back = (common_steps, back_more, back_long, back_all)

pub ruleset one_more = (common_steps, trail_within, over_more)
