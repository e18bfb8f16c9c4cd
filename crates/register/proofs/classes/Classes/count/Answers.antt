use Rattle.register.proofs.Seen.{represented}
use Rattle.register.proofs.classes.Classes.count.Goals as goal

pub returns-clause-represented : goal.returns-clause-represented
returns-clause-represented c = represented c.args.self.now.labels c.args.n c.count_labels.result c.count_labels.ensures
