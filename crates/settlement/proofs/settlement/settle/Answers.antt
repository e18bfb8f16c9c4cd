use Rattle.std.proofs.Common.{refl}
use Rattle.settlement.proofs.Sheets.{sheets_settled}
use Rattle.settlement.proofs.settlement.settle.Goals as goal

pub returns-clause-settled : goal.returns-clause-settled
returns-clause-settled c =
    sheets_settled c.args.first.now c.args.second.now _ _ c.in_ok-first.ensures.opened c.in_ok-second.ensures.opened _ _ (rw c.new-union.ensures.first refl)
    (rw c.new-union.ensures.second refl) (c.fits.ensures.yes.0 c.in_ok-fits.was) _ _ _ c.compare_starts.ensures c.in_ok-verdict.verdict c.in_ok-verdict.was c.start_state.result c.start_state.ensures
    c.settlement_of.result c.settlement_of.ensures
