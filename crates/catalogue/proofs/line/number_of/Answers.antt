use Rattle.std.proofs.Common.{◌≡◌, ℕ, ◌+◌, ◌-◌, ◌*◌, ◌<◌, ◌≤◌, true, [], ◌∷◌, map, refl, Bor, rules, sym, ◌∙◌, ap, length}
use Rattle.std.proofs.lemmas.Fn.{serves_by}
use Rattle.std.proofs.lemmas.List.{map-append}
use Rattle.std.specs.List.{AllByRecursion, fold}
use Rattle.catalogue.specs.Lines.{digit, value}
use Rattle.catalogue.proofs.Values.{fold_digits, value_push, room, Room}
use Rattle.catalogue.proofs.line.number_of.Goals as goal

pub fold-requires-clause-callable : goal.fold-requires-clause-callable
fold-requires-clause-callable c =
    let now = λ (y : Bor ℕ). y.now in
    let few : length c.iter.result.rest.now ≤ 6 = search rules in
    let all : AllByRecursion (λ b. digit b ≡ true) c.iter.result.rest.now = search rules in
    serves_by _ (λ xs q. q.1 ≡ value (map now xs))
    (λ xs q x v e k.
    let added : v.1 ≡ q.1 * 10 + (x.now - 48) = search rules in
    added ∙ ap (λ (n : ℕ). n * 10 + (x.now - 48)) e ∙ sym (value_push (map now xs) x.now) ∙ ap value (sym (map-append now xs (x ∷ []))))
    _ _ _ _ refl
    (λ xs t q x u y k e.
    let fit : Room (value (map now xs)) x.now = room c.iter.result t u xs x few all y k in
    let low : 48 ≤ x.now = fit.low in
    let small : q.1 * 10 + (x.now - 48) < 1000000 = rw e fit.small in
    search rules)

pub returns : goal.returns
returns c =
    let folded : c.fold.result ≡ fold (λ n b. n * 10 + (b - 48)) 0 c.args.digits.now = search rules in
    folded ∙ fold_digits 0 c.args.digits.now
