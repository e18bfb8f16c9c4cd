use Rattle.std.proofs.Common.{◌≡◌, ◌++◌, ◌∷◌, [], replicate, Some, ℕ, ◌+◌, List, sym, ◌∙◌, arith}
use Rattle.std.specs.Prelude.{slice_get}
use Rattle.std.proofs.lemmas.Grind.{common_steps}
use Rattle.std.proofs.lemmas.List.{get_or-replicate, replicate-append-replicate}
use Rattle.std.proofs.lemmas.Option.{get_or_from_slice_get}
use Rattle.explore.proofs.tests.repeat.Goals as goal

once_more : {A : Type 0} (n : ℕ) (a x : A) (xs : List A) → xs ≡ replicate (n + 1) a → slice_get xs n ≡ Some x → xs ++ (x ∷ []) ≡ replicate ((n + 1) + 1) a
once_more n a x xs e f =
    let same : x ≡ a = sym (get_or_from_slice_get xs n x a f) ∙ rw e (get_or-replicate (n + 1) n a a (omega arith)) in
    rw (e, same) (replicate-append-replicate (n + 1) 1 a)

pub loop-next-preserved : goal.loop-next-preserved
loop-next-preserved c =
    let more = once_more c.loop-next.queue.taken c.args.cell c.in-Some.next in
    grind (arith, common_steps, more)
