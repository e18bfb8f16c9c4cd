use Rattle.std.proofs.Common.{◌≡◌, ◌∙◌, ℕ, ◌+◌, ◌<◌, List, [], ap, slice_index, slice_index_or}
use Rattle.sheet.proofs.Runs.{chunk, eight_sum}
use Rattle.sheet.proofs.bits.eight_there.Goals as goal

pub returns-clause-value : goal.returns-clause-value
returns-clause-value c =
    let f : ℕ → ℕ = λ i. slice_index (slice_index_or c.as_chunks.result.0.now 0 []) i in
    let at : (i : ℕ) → i < 8 → f i ≡ slice_index c.args.bytes.now (c.args.first + i) =
    λ i l. ap (λ (ws : List (List ℕ)). slice_index (slice_index_or ws 0 []) i) c.as_chunks.ensures.front ∙ chunk c.args.bytes.now c.args.first i c.requires l in
    c.from_be_bytes.ensures ∙ eight_sum c.args.bytes.now c.args.first f at
