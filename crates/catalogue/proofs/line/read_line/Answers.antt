use Rattle.std.proofs.Common.{◌≡◌, ◌≤◌, length, get_or, rules}
use Rattle.catalogue.proofs.Openings.{stuck_leaving}
use Rattle.catalogue.proofs.line.read_line.Goals as goal

pub returns-in_default : goal.returns-in_default
returns-in_default c =
    let unopened : 4 ≤ length c.args.text.now → get_or c.args.text.now 0 0 ≡ 76 → get_or c.args.text.now 1 0 ≡ 79 → get_or c.args.text.now 2 0 ≡ 84 → get_or c.args.text.now 3 0 ≡ 32 → ⊥ = search rules in
    stuck_leaving c.args.text.now c.common_prefix_len.result (search (rules, unopened))
