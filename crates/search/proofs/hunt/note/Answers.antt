use Rattle.std.proofs.Common.{◌≡◌, ◌≤◌, ◌-◌, cond, drop, length-drop, ℕ, suc, List, ◌++◌, ◌∷◌, [], length, true, ◌<◌, sym, subst, ap, ◌∙◌, refl, arith}
use Rattle.std.specs.Prelude.{All}
use Rattle.explore.specs.declared.step_cell.StepCell.{StepCell}
use Rattle.explore.specs.Queues.{further_cells, has_room, noted_cells}
use Rattle.explore.specs.States.{noted_state, unnoted}
use Rattle.explore.proofs.States.{unnoted_one}
use Rattle.explore.proofs.Trails.{length_end}
use Rattle.explore.proofs.Underway.{room_for_one}
use Rattle.search.specs.Marks.{was_seen}
use Rattle.search.proofs.Hunts.{marked_one, one_below}
use Rattle.search.proofs.hunt.note.Given.{Over}
use Rattle.search.proofs.hunt.note.Goals as goal

module _ (g : Over) (c : goal.After-note g) where
  abbrev n : ℕ
  n = g.R.Rule.count c.args.rule.now

  abbrev before : List StepCell
  before = noted_cells c.args.queue.now

  bound : n ≤ 4096
  bound = (g.R.Rule.bounds c.args.rule.now).few_states

  fewer : suc (unnoted (before ++ (c.args.cell ∷ [])) n) ≡ unnoted before n
  fewer = unnoted_one before c.args.cell n c.requires.there c.requires.unseen

  room : has_room c.args.queue.now ≡ true
  room = room_for_one c.args.queue.now (omega (arith, fewer, c.requires.stands.fewer, c.requires.stands.room))

  noted : noted_cells c.note.new.self ≡ before ++ (c.args.cell ∷ [])
  noted = c.note.ensures.noted ∙ rw (c.note.ensures.answer, room) refl

  fewer_left : length (further_cells c.note.new.self) ≡ length (further_cells c.args.queue.now) - 1
  fewer_left = ap length (c.note.ensures.further ∙ ap (λ b. drop (cond b 1 0) (further_cells c.args.queue.now)) (c.note.ensures.answer ∙ room)) ∙ length-drop 1 (further_cells c.args.queue.now)

pub returns-clause-stands : goal.returns-clause-stands
returns-clause-stands g c = record {
  marked = subst (λ (cells : List StepCell). (x : ℕ) → x < 4096 → was_seen c.add.new.self x ≡ noted_state cells x) (sym (noted g c))
      (marked_one c.args.seen.now c.add.new.self (before g c) c.args.cell (rw c.from.ensures at c.add.ensures) c.requires.stands.marked);
  inside = subst (λ (cells : List StepCell). All (λ (d : StepCell). d.state < n g c) cells) (sym (noted g c)) (one_below (n g c) (before g c) c.args.cell c.requires.stands.inside c.requires.there);
  fewer = rw (noted g c) (omega (arith, length_end (before g c) c.args.cell, fewer g c, c.requires.stands.fewer));
  room = omega (arith, ap length (noted g c), length_end (before g c) c.args.cell, fewer_left g c, c.requires.stands.room);
}

pub returns-clause-noted : goal.returns-clause-noted
returns-clause-noted g c = noted g c
