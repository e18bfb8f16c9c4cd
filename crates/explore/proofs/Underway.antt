-- A search under way, step by step, as a loop goes through it with a queue.
use Rattle.std.proofs.Common.{◌≡◌, ℕ, zero, suc, ◌+◌, ◌<◌, ◌≤◌, List, [], ◌∷◌, ◌++◌, length, drop, Option, None, Some, get_or, ◌⊎◌, inl, inr, refl, sym, ap, ap₂, ◌∙◌, length-drop, take-append-drop, true, arith}
use Rattle.std.specs.Prelude.{is_some, option_map, slice_get}
use Rattle.std.proofs.Math.Seq.{drop-nil}
use Rattle.std.proofs.lemmas.Bool.{lt-ltb}
use Rattle.std.proofs.lemmas.List.{length-take-le}
use Rattle.std.proofs.lemmas.Option.{get_or_from_slice_get, none-some, same_Some, slice_get_cases, slice_get_within}
use Rattle.explore.specs.declared.queue.Queue.{Queue}
use Rattle.explore.specs.Queues.{further_cells, has_room, noted_cells}
use Rattle.explore.specs.Search.{Kind, Progress, at, met, spread, taken}
use Rattle.explore.specs.Underway.{Grown, progress}
use Rattle.explore.specs.Written.{over}
use Rattle.explore.proofs.Steps.{spread_ended, spread_next, taken_all, taken_ended, taken_next}

-- Where there is a further cell, there is room for one.
pub room_for_one : {C : Type 0} (q : Queue C) → 1 ≤ length (further_cells q) → has_room q ≡ true
room_for_one q h = lt-ltb _ _ (omega (arith, h, length-drop q.noted q.cells.now))

-- A number that has no cell is past the end.
no_cell : {C : Type 0} (cells : List C) (i : ℕ) → slice_get cells i ≡ None → length cells ≤ i
no_cell {C} cells i e = go (slice_get_cases cells i).1
  where
    go : ((c : C) × (i < length cells) × (slice_get cells i ≡ Some c) × (get_or cells i c ≡ c)) ⊎ ((length cells ≤ i) × (slice_get cells i ≡ None)) → length cells ≤ i
    go (inl h) = absurd (none-some _ (sym e ∙ h.2))
    go (inr h) = h.0

-- What a taken cell with its number says, and what it says if none was taken.
pub handed_out : {C : Type 0} (o : Option C) (n : ℕ) (r : Option (ℕ × C)) (i : ℕ) (c : C) → r ≡ option_map (λ d. (n, d)) o → r ≡ Some (i, c) → (i ≡ n) × (o ≡ Some c)
handed_out None n r i c e h = absurd (none-some _ (sym e ∙ h))
handed_out (Some d) n r i c e h = let t = same_Some _ _ (sym h ∙ e) in (ap (λ z. z.0) t, ap (λ z. Some z.1) (sym t))

pub none_out : {C : Type 0} (o : Option C) (n : ℕ) (r : Option (ℕ × C)) → r ≡ option_map (λ d. (n, d)) o → r ≡ None → o ≡ None
none_out None n r e h = refl
none_out (Some d) n r e h = absurd (none-some _ (sym h ∙ e))

-- What is one behind some place is one behind each later place.
drop_on : {C : Type 0} (i j : ℕ) (xs ys : List C) → i ≤ j → drop i xs ≡ drop i ys → drop j xs ≡ drop j ys
drop_on zero j xs ys h e = ap (drop j) e
drop_on (suc i) zero xs ys h e = absurd (omega arith)
drop_on (suc i) (suc j) [] [] h e = refl
drop_on (suc i) (suc j) [] (y ∷ ys) h e = sym (drop-nil j) ∙ drop_on i j [] ys (omega arith) (drop-nil i ∙ e)
drop_on (suc i) (suc j) (x ∷ xs) [] h e = drop_on i j xs [] (omega arith) (e ∙ sym (drop-nil i)) ∙ drop-nil j
drop_on (suc i) (suc j) (x ∷ xs) (y ∷ ys) h e = drop_on i j xs ys (omega arith) e

-- A queue that has gone on, and on again.
module _ {C : Type 0} where
  pub grown_yet : (q : Queue C) → Grown q q
  grown_yet q = record { same_reference = refl; more = omega arith; further = ap (λ i. drop i q.cells.now) (sym (length-take-le q.noted q.cells.now q.in_room)) }

  pub grown_then : (q r s : Queue C) → Grown q r → Grown r s → Grown q s
  grown_then q r s f h = record {
    same_reference = h.same_reference ∙ f.same_reference;
    more = omega (arith, f.more, h.more);
    further = h.further ∙ drop_on (length (noted_cells r)) (length (noted_cells s)) r.cells.now q.cells.now h.more (here ∙ f.further);
  }
    where
      here : drop (length (noted_cells r)) r.cells.now ≡ further_cells r
      here = ap (λ i. drop i r.cells.now) (length-take-le r.noted r.cells.now r.in_room)

  -- a cell is taken
  pub grown_taken : (q r s : Queue C) → Grown q r → s.cells.ghost_name ≡ r.cells.ghost_name → noted_cells s ≡ noted_cells r → further_cells s ≡ further_cells r → Grown q s
  grown_taken q r s f same noted further = record {
    same_reference = same ∙ f.same_reference;
    more = omega (arith, f.more, ap length noted);
    further = further ∙ f.further ∙ ap (λ (cells : List C). drop (length cells) q.cells.now) (sym noted);
  }

  -- what the lent cells hold, of which none was noted at first
  pub lent_cells : (q r : Queue C) → Grown q r → noted_cells q ≡ [] → r.cells.now ≡ over (noted_cells r) (further_cells q)
  lent_cells q r f none =
      sym (take-append-drop r.noted r.cells.now)
      ∙ ap (λ (rest : List C). noted_cells r ++ rest)
      (f.further ∙ ap (drop (length (noted_cells r))) (sym (take-append-drop q.noted q.cells.now) ∙ ap (λ (xs : List C). xs ++ further_cells q) none))

-- The search from a queue q on: r is the queue so far, and each further letter is that of r.
module _ (S : Kind) (q r s : Queue S.Cell) where
  -- an item is reached by one more letter,
  pub spread_more : (x : S.Item) (i a : ℕ) (ended : Option (ℕ × ℕ)) → spread S (progress q None) x i a ≡ progress r None → met S (progress r None) (S.step x a) i a ≡ progress s ended →
      spread S (progress q None) x i (a + 1) ≡ progress s ended
  spread_more x i a ended so_far reached = spread_next S (progress q None) x i a ∙ ap (λ (t : Progress S.Cell). met S t (S.step x a) i a) so_far ∙ reached

  -- and where that ended it, further letters change nothing
  pub spread_out : (x : S.Item) (i a k : ℕ) → spread S (progress q None) x i a ≡ progress r None → met S (progress r None) (S.step x a) i a ≡ progress s (Some (i, a)) → a < k →
      spread S (progress q None) x i k ≡ progress s (Some (i, a))
  spread_out x i a k so_far reached below = spread_ended S (progress q None) x i (a + 1) k (omega (arith, below)) (ap (λ (t : Progress S.Cell). is_some t.ended) more) ∙ more
    where
      more : spread S (progress q None) x i (a + 1) ≡ progress s (Some (i, a))
      more = spread_more x i a (Some (i, a)) so_far reached

-- The same cell by cell: s is the queue r without its next cell, and t that with the items that the cell leads to.
module _ (S : Kind) (k : ℕ) (q r s t : Queue S.Cell) where
  pub taken_more : (h : ℕ) (c : S.Cell) (ended : Option (ℕ × ℕ)) → taken S k (progress q None) h ≡ progress r None → slice_get (noted_cells r) h ≡ Some c → noted_cells s ≡ noted_cells r →
      spread S (progress s None) (S.item c) h k ≡ progress t ended → taken S k (progress q None) (h + 1) ≡ progress t ended
  taken_more h c ended so_far here same reached =
      taken_next S k (progress q None) h (rw so_far (slice_get_within (noted_cells r) h c here))
      ∙ ap (λ (u : Progress S.Cell). spread S u (S.item (at S u.noted h)) h k) so_far
      ∙ ap₂ (λ (cells : List S.Cell) (d : S.Cell). spread S (record { noted = cells; ended = None }) (S.item d) h k) (sym same) (get_or_from_slice_get (noted_cells r) h c S.none here)
      ∙ reached

  -- where that ended it, further cells change nothing
  pub taken_out : (h n : ℕ) (c : S.Cell) (a : ℕ) → taken S k (progress q None) h ≡ progress r None → slice_get (noted_cells r) h ≡ Some c → noted_cells s ≡ noted_cells r →
      spread S (progress s None) (S.item c) h k ≡ progress t (Some (h, a)) → length (noted_cells r) ≤ n → taken S k (progress q None) n ≡ progress t (Some (h, a))
  taken_out h n c a so_far here same reached few =
      taken_ended S k (progress q None) (h + 1) n (omega (arith, few, slice_get_within (noted_cells r) h c here)) (ap (λ (u : Progress S.Cell). is_some u.ended) more) ∙ more
    where
      more : taken S k (progress q None) (h + 1) ≡ progress t (Some (h, a))
      more = taken_more h c (Some (h, a)) so_far here same reached

-- Where no cell is left, it is done.
pub taken_done : (S : Kind) (k : ℕ) (q r : Queue S.Cell) (h n : ℕ) → taken S k (progress q None) h ≡ progress r None → slice_get (noted_cells r) h ≡ None → h ≤ n →
    taken S k (progress q None) n ≡ progress r None
taken_done S k q r h n so_far none few = taken_all S k (progress q None) h n few (rw so_far (no_cell (noted_cells r) h none)) ∙ so_far
