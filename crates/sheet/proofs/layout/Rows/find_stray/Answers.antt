use Rattle.std.proofs.Common.{◌≡◌, true, false, rules}
use Rattle.std.proofs.lemmas.Iterator.{first_from_Range}
use Rattle.sheet.specs.Layout.{letter_count}
use Rattle.sheet.proofs.Firsts.{first_is}
use Rattle.sheet.proofs.Strays.{out}
use Rattle.sheet.proofs.layout.Rows.find_stray.Goals as goal

pub returns : goal.returns
returns c =
    let bs = c.args.self.now.bytes.now in
    first_is (out bs c.args.state) (letter_count bs) c.args.self.now.size.letters c.find.result c.args.self.now.headed.letters
    (first_from_Range _ _ _ _ (λ a. out bs c.args.state a ≡ true) (λ a. out bs c.args.state a ≡ false) c.find.ensures.ran (λ a q k. search rules) (λ a q k. search rules))
