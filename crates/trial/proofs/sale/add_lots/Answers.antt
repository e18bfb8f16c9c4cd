use Rattle.std.proofs.Common.{◌≡◌, ℕ, ◌≤◌, List, ◌++◌, length, take, vec_items, sym, ap, ◌∙◌, arith, length-append}
use Rattle.std.proofs.lemmas.List.{take-take}
use Rattle.std.proofs.Math.Seq.{take-append_seam}
use Rattle.trial.proofs.sale.add_lots.Goals as goal

-- what begins with more begins with less
front : (a b c t : List ℕ) → b ≡ a ++ t → take (length b) c ≡ b → take (length a) c ≡ a
front a b c t e f =
    let less : length a ≤ length b = omega (arith, ap length e, length-append a t) in
    sym (take-take (length a) (length b) c less) ∙ ap (take (length a)) (f ∙ e) ∙ take-append_seam a t

pub returns-in_err-add_lot-clause-front : goal.returns-in_err-add_lot-clause-front
returns-in_err-add_lot-clause-front g c = front (vec_items c.args.out.now) (vec_items c.loop-lot.out) _ _ c.loop-lot.invariant.0 c.add_lot.ensures.front
