use Rattle.std.proofs.Common.{◌≡◌, ◌<◌, arith, get_or, rules}
use Rattle.std.proofs.lemmas.Bool.{eqb-false}
use Rattle.register.specs.Rings.{Added, Relabelled, Spliced}
use Rattle.register.proofs.Beyond.{below_relabelled, from_relabelled, from_spliced, ones_added}
use Rattle.register.proofs.Sizes.{sized_merged}
use Rattle.register.proofs.Splice.{inside_relabelled, inside_spliced, keeps_spliced, round_spliced}
use Rattle.register.proofs.classes.Classes.merge.Goals as goal

pub invariant_of-self : goal.invariant_of-self
invariant_of-self c =
    let s = c.args.self.now in
    let t = s.table in
    let p = c.args.from in
    let q = c.args.to in
    let l = s.labels in
    let m = c.relabel_class.new.labels in
    let hp : p < 4096 = omega (arith, c.requires.from_there, t.few) in
    let hq : q < 4096 = omega (arith, c.requires.to_there, t.few) in
    let ne : get_or l p 0 ≡ get_or l q 0 → ⊥ = eqb-false _ _ c.requires.apart in
    let moved : Relabelled l m p (get_or l q 0) = search (rules, c.relabel_class.ensures.relabelled) in
    let x : Spliced s.ring c.splice.new.ring p q = search (rules, c.splice.ensures.spliced) in
    let sums : Added s.sizes c.add.new.sizes (get_or l q 0) (get_or l p 0) = search (rules, c.add.ensures.added) in
    record {
      table = record {
        labels_long = c.relabel_class.ensures.long;
        ring_long = c.splice.ensures.long;
        sizes_long = c.add.ensures.long;
        few = t.few;
        labels_inside = inside_relabelled l m p q hq t.labels_inside moved;
        ring_inside = inside_spliced s.ring _ p q hp hq t.ring_inside x;
        keeps = keeps_spliced l m s.ring _ p q hp hq t.ring_inside t.keeps moved x;
        round = round_spliced l m s.ring _ p q hp hq ne t.ring_inside t.keeps t.round moved x;
        sized = sized_merged l s.sizes p q t.labels_long hp hq ne t.sized m _ c.relabel_class.ensures.long t.labels_inside moved sums;
        labels_below = below_relabelled s.states t.few l m p q c.requires.from_there c.requires.to_there t.labels_below moved;
        labels_from = from_relabelled s.states t.few l m p _ c.requires.from_there t.labels_below t.labels_from moved;
        ring_from = from_spliced s.states t.few s.ring _ p q c.requires.from_there c.requires.to_there t.ring_from x;
        sizes_from = ones_added s.states t.few s.sizes _ _ _ (t.labels_below q c.requires.to_there) t.sizes_from sums;
        gap_zero = t.gap_zero;
        second_gap_zero = t.second_gap_zero;
      };
    }
