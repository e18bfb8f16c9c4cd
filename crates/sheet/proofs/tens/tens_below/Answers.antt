use Rattle.std.proofs.Common.{◌<◌, ◌-◌, ◌*◌, ◌/◌, ◌%◌, ◌^◌, ℕ, arith}
use Rattle.sheet.proofs.Lanes.{four}
use Rattle.sheet.proofs.tens.tens_below.Goals as goal

pub returns-then-pair_below : goal.returns-then-pair_below
returns-then-pair_below c h =
    let t = c.args.tens in
    let n = c.args.limit in
    let last : t % 1024 < n = c.pair_below.ensures.low c.if-pair_below.true in
    let second : t / 2 ^ 20 % 1024 < n = c.pair_below.ensures.high c.if-pair_below.true in
    let third : t / 2 ^ 10 % 1024 < n = c.pair_below-then-pair_below.ensures.low h in
    let first : t / 2 ^ 10 / 2 ^ 20 % 1024 < n = c.pair_below-then-pair_below.ensures.high h in
    four (λ (j : ℕ). t / 2 ^ (30 - 10 * j) % 1024 < n) (omega arith) (omega arith) (omega arith) (omega arith)
