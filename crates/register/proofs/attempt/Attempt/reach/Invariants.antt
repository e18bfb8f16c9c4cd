use Rattle.register.proofs.attempt.Attempt.reach.Given as goal

abbrev pub ghost-note : goal.ghost-note
ghost-note g a = g.before
