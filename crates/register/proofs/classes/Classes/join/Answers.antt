use Rattle.std.proofs.Common.{◌≡◌, ◌∙◌, ℕ, ⊎_elim, ap}
use Rattle.register.specs.Labels.{same}
use Rattle.register.specs.Relations.{join}
use Rattle.register.proofs.Joins.{join_swapped}
use Rattle.register.proofs.classes.Classes.join.Goals as goal

pub returns-clause-joined : goal.returns-clause-joined
returns-clause-joined c u v hu hv =
    let J = same c.args.self.now.labels in
    let ordered : ℕ × ℕ = c.smaller_first-from.result in
    let merged : same c.merge.new.self.labels u v ≡ join J ordered.0 ordered.1 u v = c.merge.ensures.joined u v hu hv in
    ⊎_elim
    (λ e. merged ∙ ap (λ (x : ℕ × ℕ). join J x.0 x.1 u v) e)
    (λ e. merged ∙ ap (λ (x : ℕ × ℕ). join J x.0 x.1 u v) e ∙ join_swapped J c.args.q c.args.p u v)
    c.smaller_first-from.ensures.either
