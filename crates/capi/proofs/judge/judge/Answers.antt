use Rattle.capi.proofs.Judging.{text_judged}
use Rattle.capi.proofs.judge.judge.Goals as goal

pub returns : goal.returns
returns g c = text_judged g.S.Held.form c.args.sheet.now c.args.text.now _ _ _ _ _ c.in_ok-open.was c.keeps.ensures c.open.ensures
