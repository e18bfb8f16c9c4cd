use Rattle.std.proofs.Common.{refl, rules}
use Rattle.register.specs.Calls.{found_in}
use Rattle.register.proofs.PutBack.{left_joined}
use Rattle.register.proofs.register.Register.compare.Goals as goal

pub returns : goal.returns
returns g c = record {
  answer = search rules;
  rule = refl;
  joined = left_joined g.R.Rule c.args.self.now _ (found_in g.R.Rule c.args.self.now c.args.p c.args.q).noted c.compare.result refl c.compare.ensures.kept;
  noted = search rules;
  written = search rules;
}
