use Rattle.std.proofs.Common.{sym, ◌∙◌}
use Rattle.register.specs.declared.classes.Classes.{Classes}
use Rattle.register.proofs.PutBack.{back, same_classes}
use Rattle.register.proofs.classes.Classes.put_back.Goals as goal

pub invariant_of-self : goal.invariant_of-self
invariant_of-self g c =
    let before : Classes = c.requires.saved.0 in
    let b = back before c.args.self.now c.args.saved.now _ _ _ c.requires.saved.1 c.requires.saved.2 c.put_first.ensures c.put_first-2.ensures c.put_first-3.ensures in
    let now : Classes = c.args.self.now in
    record {
      table = rw (b.labels_back, b.ring_back, b.sizes_back, sym c.requires.saved.1, now.table.gap_zero ∙ sym before.table.gap_zero, now.table.second_gap_zero ∙ sym before.table.second_gap_zero)
          before.table;
    }

pub returns : goal.returns
returns g c before states is =
    let now : Classes = c.args.self.now in
    let b = back before now c.args.saved.now _ _ _ states is c.put_first.ensures c.put_first-2.ensures c.put_first-3.ensures in
    same_classes _ before (sym states) b.labels_back (now.table.gap_zero ∙ sym before.table.gap_zero) b.ring_back (now.table.second_gap_zero ∙ sym before.table.second_gap_zero) b.sizes_back
