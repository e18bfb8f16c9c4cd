use Rattle.std.proofs.Common.{◌≡◌, ℕ, Bool, true, false, is_some, rules}
use Rattle.std.proofs.lemmas.Iterator.{first_from_Range}
use Rattle.sheet.specs.Layout.{state_count, stray_letter}
use Rattle.sheet.proofs.Firsts.{first_is}
use Rattle.sheet.proofs.layout.Rows.stray_state.Goals as goal

pub returns-clause-value : goal.returns-clause-value
returns-clause-value c =
    let bs = c.args.self.now.bytes.now in
    let strays : ℕ → Bool = λ p. is_some (stray_letter bs p) in
    first_is strays (state_count bs) c.args.self.now.size.states c.find.result c.args.self.now.headed.states
    (first_from_Range _ _ _ c.find.result (λ p. strays p ≡ true) (λ p. strays p ≡ false) c.find.ensures.ran (λ p q k. search rules) (λ p q k. search rules))
