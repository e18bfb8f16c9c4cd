use Rattle.register.proofs.compare.attempt.Given as goal

abbrev pub ghost-run : goal.ghost-run
ghost-run g a = a.self.now.classes.now.labels
