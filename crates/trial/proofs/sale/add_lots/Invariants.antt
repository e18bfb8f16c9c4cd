use Rattle.std.proofs.Common.{◌≡◌, ◌+◌, ◌++◌, take, vec_items}
use Rattle.automaton.specs.Meanings.{meaning}
use Rattle.catalogue.specs.Listing.{values}
use Rattle.trial.specs.Reports.{lots_text, tally_of}
use Rattle.trial.proofs.sale.add_lots.Given as goal

-- the tally's three numbers stand in a row here
abbrev pub invariant-loop-lot : goal.invariant-loop-lot
invariant-loop-lot g l =
    let m = meaning g.R.Rule l.rule in
    let before = values (take l.lot-index l.lots) in
    let kept = l.tally.0 in
    let dropped = l.tally.1.0 in
    let unknown = l.tally.1.1.0 in
    (vec_items l.out ≡ vec_items l.initial.out ++ lots_text m before) × (record { kept = kept; dropped = dropped; unknown = unknown } ≡ tally_of m before) × (kept + dropped + unknown ≡ l.lot-index)
