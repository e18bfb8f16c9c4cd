use Rattle.std.proofs.Common.{◌≡◌, ◌∙◌, ◌≤◌, ◌+◌, ◌*◌, ◌/◌, ◌%◌, ℕ, true, ap, arith, rules}
use Rattle.std.proofs.lemmas.Grind.{common_steps}
use Rattle.automaton.specs.declared.size.Size.{Size}
use Rattle.automaton.specs.Meanings.{meaning}
use Rattle.combine.specs.Combined.{fit, pairs}
use Rattle.combine.proofs.Numbers.{pairs_row}
use Rattle.combine.proofs.intersection.IntersectionRule.row.Goals as goal

pub returns : goal.returns
returns g c =
    let m = meaning g.A.Rule c.args.self.now.first.rule in
    let n = meaning g.B.Rule c.args.self.now.second.rule in
    let fits : fit m.letters n.letters (pairs m n) ≡ true = search rules in
    let same : m.letters ≡ n.letters = grind (arith, common_steps, fits) in
    let first : c.sizes-sizes.result.first.states ≡ m.count = ap (λ (s : Size). s.states) c.sizes-sizes.ensures.first in
    let second : c.sizes-sizes.result.second.states ≡ n.count = ap (λ (s : Size). s.states) c.sizes-sizes.ensures.second in
    let at_p : c.apart-p.result.0 ≡ c.args.state / n.count = ap (λ (x : ℕ × ℕ). x.0) c.apart-p.ensures.value ∙ ap (λ (k : ℕ). c.args.state / k) second in
    let at_q : c.apart-p.result.1 ≡ c.args.state % n.count = ap (λ (x : ℕ × ℕ). x.1) c.apart-p.ensures.value ∙ ap (λ (k : ℕ). c.args.state % k) second in
    let few : c.args.raise + m.count * n.count ≤ 4096 = rw fits at c.requires.few in
    rw fits
    (pairs_row m n (g.A.Rule.bounds c.args.self.now.first.rule) (g.B.Rule.bounds c.args.self.now.second.rule) same c.args.state _ _ c.args.raise _ _ _ _ at_p at_q
    (ap (λ (s : Size). s.states) c.args.self.now.second.sized) (omega (arith, c.apart-p.ensures.first, first)) (omega (arith, c.apart-p.ensures.second, second)) few c.row-first.ensures c.row-second.ensures
    c.number_row.ensures)
