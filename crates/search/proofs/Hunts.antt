-- What a search for a kept state keeps, with each state that it notes.
use Rattle.std.proofs.Common.{◌≡◌, ℕ, zero, suc, ◌<◌, ◌≤◌, false, List, [], ◌∷◌, ◌++◌, length, Some, sym, ap, subst, arith}
use Rattle.std.specs.Prelude.{All, slice_get}
use Rattle.std.proofs.lemmas.Grind.{common_steps}
use Rattle.std.proofs.lemmas.List.{length-take-le}
use Rattle.std.proofs.lemmas.List.Elements.{All-append}
use Rattle.std.proofs.lemmas.Option.{get_or_from_slice_get, slice_get_within}
use Rattle.explore.specs.declared.queue.Queue.{Queue}
use Rattle.explore.specs.declared.step_cell.StepCell.{StepCell}
use Rattle.explore.specs.Queues.{further_cells, noted_cells}
use Rattle.explore.specs.States.{noted_state}
use Rattle.explore.proofs.States.{noted_more, unnoted_none}
use Rattle.search.specs.declared.seen.Seen.{Seen}
use Rattle.search.specs.Hunts.{Stands}
use Rattle.search.specs.Marks.{Added, was_seen}

-- The state marked last is the one noted last.
pub marked_one : (old new : Seen) (cells : List StepCell) (c : StepCell) → Added old new c.state →
    ((x : ℕ) → x < 4096 → was_seen old x ≡ noted_state cells x) → (x : ℕ) → x < 4096 → was_seen new x ≡ noted_state (cells ++ (c ∷ [])) x
marked_one old new cells c added all x h = let m = noted_more cells c x in let a = added x h in let o = all x h in grind (arith, common_steps)

-- Its state is there.
pub one_below : (n : ℕ) (cells : List StepCell) (c : StepCell) → All (λ (d : StepCell). d.state < n) cells → c.state < n → All (λ (d : StepCell). d.state < n) (cells ++ (c ∷ []))
one_below n cells c i h = All-append (λ (d : StepCell). d.state < n) cells (c ∷ []) i one
  where
    one : All (λ (d : StepCell). d.state < n) (c ∷ [])
    one zero d l = h
    one (suc k) d l = absurd (omega arith)

pub cell_below : (n : ℕ) (cells : List StepCell) (i : ℕ) (c : StepCell) → All (λ (d : StepCell). d.state < n) cells → slice_get cells i ≡ Some c → c.state < n
cell_below n cells i c all e = subst (λ (d : StepCell). d.state < n) (get_or_from_slice_get cells i c c e) (all i c (slice_get_within cells i c e))

-- At first nothing is noted.
pub stands_first : (n : ℕ) (s : Seen) (q : Queue StepCell) → ((x : ℕ) → x < 4096 → was_seen s x ≡ false) → noted_cells q ≡ [] → n ≤ length (further_cells q) → Stands n s q
stands_first n s q e none room = record {
  marked = λ x h. rw none (e x h);
  inside = λ k d h. absurd (omega (arith, h, ap length none));
  fewer = rw none (omega (arith, unnoted_none n));
  room = omega (arith, room);
}

-- A cell is taken, and the noted ones stand.
pub stands_taken : (n : ℕ) (s : Seen) (q r : Queue StepCell) → Stands n s q → noted_cells r ≡ noted_cells q → further_cells r ≡ further_cells q → Stands n s r
stands_taken n s q r t noted further = record {
  marked = λ x h. rw noted (t.marked x h);
  inside = subst (λ (cells : List StepCell). All (λ (d : StepCell). d.state < n) cells) (sym noted) t.inside;
  fewer = rw noted t.fewer;
  room = omega (arith, t.room, ap length noted, ap length further);
}

-- No more cells are noted than there are states, nor taken.
pub few_noted : (n : ℕ) (s : Seen) (q : Queue StepCell) → Stands n s q → length (noted_cells q) ≤ n
few_noted n s q t = omega (arith, t.fewer)

pub few_taken : (n : ℕ) (s : Seen) (q : Queue StepCell) → Stands n s q → q.taken ≤ n
few_taken n s q t = omega (arith, t.fewer, q.in_order, length-take-le q.noted q.cells.now q.in_room)
