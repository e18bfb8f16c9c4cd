use Rattle.std.proofs.Common.{◌≡◌, ◌-◌, ◌/◌, ◌%◌, arith}
use Rattle.std.proofs.lemmas.Grind.{common_steps}
use Rattle.sheet.specs.Bits.{window}
use Rattle.sheet.proofs.Writes.{changed, changed_or, put_all, put_field, put_others}
use Rattle.sheet.proofs.bits.write_bits.Goals as goal

pub returns : goal.returns
unfolding put_all
returns c =
    let bs = c.args.bytes.now in
    let i = c.args.at in
    let v = c.args.value in
    let w = c.args.width.bits in
    let s = 24 - i % 8 - w in
    let new = changed_or c.three_bytes-old.result s w v c.requires.small c.three_bytes-old.ensures.bound (omega arith) in
    let after = c.put_byte-3.new.bytes in
    let made : after ≡ put_all bs (i / 8) (changed (window bs (i / 8)) s w v) = grind (arith, common_steps, new) in
    let typed = c.three_bytes-old.ensures.typed in
    let narrow = c.args.width.narrow in
    record {
      holds = put_field bs i w v typed c.requires.small c.requires.room narrow after made;
      others = put_others bs i w v typed c.requires.small c.requires.room narrow after made;
    }
