use Rattle.register.proofs.Beyond.{fresh, numbered_apart, ones_all, renumbered}
use Rattle.register.proofs.classes.Classes.clear.Goals as goal

pub invariant_of-self : goal.invariant_of-self
invariant_of-self c =
    let t = c.args.self.now.table in
    record {
      table = fresh c.args.self.now.states c.number.new.table _ c.number-2.new.table _ c.fill_ones.new.table t.few c.number.ensures.long c.number-2.ensures.long c.fill_ones.ensures.long
          t.gap_zero t.second_gap_zero (renumbered _ _ c.args.self.now.states t.labels_from c.number.ensures.numbered) (renumbered _ _ c.args.self.now.states t.ring_from c.number-2.ensures.numbered)
          (ones_all c.args.self.now.states _ _ t.few t.sizes_long t.sizes_from c.fill_ones.ensures.ones);
    }

pub returns-clause-apart : goal.returns-clause-apart
returns-clause-apart c =
    numbered_apart c.number.new.table (renumbered c.args.self.now.labels _ c.args.self.now.states c.args.self.now.table.labels_from c.number.ensures.numbered)
