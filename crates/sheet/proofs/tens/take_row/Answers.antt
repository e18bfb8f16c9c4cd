use Rattle.std.proofs.Common.{◌≡◌, ◌∙◌, ◌<◌, ℕ, slice_index, rules}
use Rattle.sheet.specs.Bits.{ten}
use Rattle.sheet.proofs.Lanes.{four_more}
use Rattle.sheet.proofs.tens.take_row.Goals as goal

pub loop-k-preserved : goal.loop-k-preserved
loop-k-preserved c =
    let bs = c.args.bytes.now in
    let past = c.loop-k.invariant in
    let four = c.take_four.ensures in
    record {
      there = four_more (λ (a : ℕ). a < c.args.size.letters → ten bs c.args.at a < c.args.size.states) c.loop-k.k past.there (four.there (search rules));
      taken = four_more (λ (a : ℕ). slice_index c.take_four.new.row a ≡ ten bs c.args.at a) c.loop-k.k (λ a l. four.others a l ∙ past.taken a l) four.taken;
    }
