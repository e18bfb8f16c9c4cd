use Rattle.std.proofs.Common.{◌≡◌, ◌≤◌, ◌-◌, cond, drop, length-drop, ℕ, suc, List, ◌++◌, ◌∷◌, [], length, true, sym, subst, ap, ◌∙◌, refl, arith}
use Rattle.explore.specs.declared.pair_cell.PairCell.{PairCell}
use Rattle.explore.specs.Queues.{further_cells, has_room, noted_cells}
use Rattle.explore.proofs.Trails.{length_end}
use Rattle.explore.proofs.Underway.{room_for_one}
use Rattle.register.specs.Labels.{same}
use Rattle.register.specs.Pairs.{CellsBelow, joins}
use Rattle.register.specs.Relations.{Agree, classes, join}
use Rattle.register.proofs.Attempts.{joined_one, one_below, one_fewer}
use Rattle.register.proofs.attempt.Attempt.note.Given.{Over}
use Rattle.register.proofs.attempt.Attempt.note.Goals as goal

module _ (g : Over) (c : goal.After-note g) where
  abbrev n : ℕ
  n = g.R.Rule.count c.args.self.now.rule.now

  bound : n ≤ 4096
  bound = (g.R.Rule.bounds c.args.self.now.rule.now).few_states

  joined : Agree 4096 (same c.join.new.self.labels) (join (same c.args.self.now.classes.now.labels) c.args.cell.first c.args.cell.second)
  joined = subst (λ (x : ℕ). Agree 4096 (same c.join.new.self.labels) (join (same c.args.self.now.classes.now.labels) c.args.cell.first x)) c.from-2.ensures
      (subst (λ (x : ℕ). Agree 4096 (same c.join.new.self.labels) (join (same c.args.self.now.classes.now.labels) x c.from-2.result)) c.from.ensures c.join.ensures.joined)

  fewer : suc (classes (same c.join.new.self.labels) n) ≡ classes (same c.args.self.now.classes.now.labels) n
  fewer = one_fewer c.args.self.now.classes.now.labels c.join.new.self.labels n c.args.cell.first c.args.cell.second bound c.requires.1.1.0 c.requires.1.1.1.0 c.requires.1.1.1.1 joined

  room : has_room c.args.queue.now ≡ true
  room = room_for_one c.args.queue.now (omega (arith, fewer, c.requires.1.0.fewer, c.requires.1.0.room))

  noted : noted_cells c.note.new.self ≡ noted_cells c.args.queue.now ++ (c.args.cell ∷ [])
  noted = c.note.ensures.noted ∙ rw (c.note.ensures.answer, room) refl

  fewer_left : length (further_cells c.note.new.self) ≡ length (further_cells c.args.queue.now) - 1
  fewer_left = ap length (c.note.ensures.further ∙ ap (λ b. drop (cond b 1 0) (further_cells c.args.queue.now)) (c.note.ensures.answer ∙ room)) ∙ length-drop 1 (further_cells c.args.queue.now)

pub returns-clause-stands : goal.returns-clause-stands
returns-clause-stands g c = record {
  states = c.join.ensures.states ∙ c.requires.1.0.states;
  joined = subst (λ (cells : List PairCell). Agree 4096 (same c.join.new.self.labels) (joins (same g.before) cells)) (sym (noted g c))
      (joined_one c.args.self.now.classes.now.labels c.join.new.self.labels (same g.before) (noted_cells c.args.queue.now) c.args.cell
      (omega (arith, bound g c, c.requires.1.1.0)) (omega (arith, bound g c, c.requires.1.1.1.0)) c.requires.1.0.joined (joined g c));
  inside = subst (λ (cells : List PairCell). CellsBelow (n g c) cells) (sym (noted g c))
      (one_below (n g c) (noted_cells c.args.queue.now) c.args.cell c.requires.1.0.inside c.requires.1.1.0 c.requires.1.1.1.0);
  fewer = omega (arith, ap length (noted g c), length_end (noted_cells c.args.queue.now) c.args.cell, fewer g c, c.requires.1.0.fewer);
  room = omega (arith, ap length (noted g c), length_end (noted_cells c.args.queue.now) c.args.cell, fewer_left g c, c.requires.1.0.room);
}

pub returns-clause-noted : goal.returns-clause-noted
returns-clause-noted g c = noted g c
