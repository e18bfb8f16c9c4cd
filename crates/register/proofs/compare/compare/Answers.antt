use Rattle.std.proofs.Common.{◌∙◌, List, length, drop, sym, ◌≤◌, arith}
use Rattle.std.proofs.Math.Seq.{take-append_seam}
use Rattle.automaton.specs.Automata.{Automaton}
use Rattle.automaton.specs.Meanings.{meaning}
use Rattle.explore.specs.declared.pair_cell.PairCell.{PairCell}
use Rattle.register.specs.Attempts.{searched_pairs}
use Rattle.register.specs.Labels.{same}
use Rattle.register.proofs.Comparing.{ended_there, further, verdict_ended}
use Rattle.register.proofs.compare.compare.Goals as goal

pub differ-requires-clause-cell_there : goal.differ-requires-clause-cell_there
differ-requires-clause-cell_there g c =
    let noted : List PairCell = (searched_pairs (meaning g.R.Rule c.args.rule.now) (same c.args.classes.now.labels) c.args.p c.args.q).noted in
    rw (c.try_saving-tried.ensures.noted, c.try_saving-tried.ensures.cells, take-append_seam noted (drop (length noted) c.args.cells.now))
    (ended_there (meaning g.R.Rule c.args.rule.now) (same c.args.classes.now.labels) c.args.p c.args.q _ _ (sym c.try_saving-tried.ensures.ended ∙ c.in-Some.is)).0

pub differ-requires-clause-letter_there : goal.differ-requires-clause-letter_there
differ-requires-clause-letter_there g c =
    (ended_there (meaning g.R.Rule c.args.rule.now) (same c.args.classes.now.labels) c.args.p c.args.q _ _ (sym c.try_saving-tried.ensures.ended ∙ c.in-Some.is)).1

pub returns-in-None-clause-kept : goal.returns-in-None-clause-kept
returns-in-None-clause-kept g c =
    let e = further (meaning g.R.Rule c.args.rule.now) (same c.args.classes.now.labels) c.args.p c.args.q _ _ (sym c.same.ensures ∙ c.if-same.false)
    c.is_kept-kept.ensures c.is_kept.ensures c.if-kept-is_kept.false in
    let few : g.R.Rule.count c.args.rule.now ≤ 4096 = (g.R.Rule.bounds c.args.rule.now).few_states in
    λ u v hu hv. rw e ((rw c.in-None.is at c.try_saving-tried.ensures.joined) u v (omega (arith, few)) (omega (arith, few)))

pub returns-in-Some-clause-verdict : goal.returns-in-Some-clause-verdict
returns-in-Some-clause-verdict g c =
    let m : Automaton = meaning g.R.Rule c.args.rule.now in
    let noted : List PairCell = (searched_pairs m (same c.args.classes.now.labels) c.args.p c.args.q).noted in
    verdict_ended m (same c.args.classes.now.labels) c.args.p c.args.q _ _ _ _
    (further m (same c.args.classes.now.labels) c.args.p c.args.q _ _ (sym c.same.ensures ∙ c.if-same.false) c.is_kept-kept.ensures c.is_kept.ensures c.if-kept-is_kept.false)
    (sym c.try_saving-tried.ensures.ended ∙ c.in-Some.is)
    (rw (c.try_saving-tried.ensures.noted, c.try_saving-tried.ensures.cells) (take-append_seam noted (drop (length noted) c.args.cells.now)))
    c.differ.ensures.verdict
