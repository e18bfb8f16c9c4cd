use Rattle.register.proofs.attempt.Attempt.run.Given as goal

abbrev pub ghost-note : goal.ghost-note
ghost-note g a = g.before

abbrev pub ghost-search : goal.ghost-search
ghost-search g a = g.before
