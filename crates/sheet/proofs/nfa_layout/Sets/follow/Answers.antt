use Rattle.std.proofs.Common.{◌≡◌, ℕ, List, [], ◌∷◌, cond, rules, refl, sym, ap, ◌∙◌, bit_or, ◌-◌, arith}
use lib.Bits.{or_zero_r}
use Rattle.std.proofs.iter.Yields.{nat_range_steps}
use Rattle.std.proofs.lemmas.Fn.{fold_over}
use Rattle.std.proofs.lemmas.Iterator.{YieldsList-from_range}
use Rattle.std.proofs.lemmas.List.Sums.{fold-append}
use Rattle.std.specs.List.{fold, range_with_len}
use Rattle.sheet.specs.NfaLayout.{next_set, own_count}
use Rattle.sheet.specs.Sets.{has, union}
use Rattle.sheet.proofs.Sets.{fold_union}
use Rattle.sheet.proofs.nfa_layout.Sets.follow.Goals as goal

pub returns : goal.returns
returns c =
    let bs = c.args.self.now.bytes.now in
    let own = c.args.self.now.own in
    let step : ℕ → ℕ → ℕ = λ a p. bit_or a (cond (has (own_count bs) c.args.set p) (next_set bs p c.args.letter) 0) in
    let whole : own - 0 ≡ own = omega arith in
    let folded : c.fold.result ≡ fold step 0 (range_with_len 0 own) =
    fold_over nat_range_steps (λ x. x) _ (λ (ys : List ℕ) (a : ℕ). a ≡ fold step 0 ys) _
    (λ ys a x b f' j k.
    let e : b ≡ step a x = search (rules, or_zero_r) in
    (e ∙ ap (λ (y : ℕ). step y x) j ∙ sym (fold-append step 0 ys (x ∷ [])), search rules))
    (record { start = 0; end = own }) (range_with_len 0 own) 0 _ (YieldsList-from_range 0 own own refl whole).runs refl c.fold.ensures.ran in
    folded ∙ fold_union (own_count bs) c.args.set (λ p. next_set bs p c.args.letter) own ∙ ap (union (own_count bs) c.args.set (λ p. next_set bs p c.args.letter)) c.args.self.now.counted.own_states
