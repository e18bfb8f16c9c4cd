use Rattle.std.proofs.Common.{replicate, refl}
use Rattle.std.proofs.lemmas.List.{get_or-replicate}
use Rattle.register.specs.Rings.{Numbered, OnesFrom}
use Rattle.register.proofs.Beyond.{fresh, numbered_all, numbered_apart}
use Rattle.register.proofs.classes.Classes.new.Goals as goal

ones : OnesFrom 0 (replicate 4096 1)
ones u _ h = get_or-replicate 4096 u 1 0 h

pub invariant_of-result : goal.invariant_of-result
invariant_of-result c =
    let numbered : Numbered c.number.new.table = numbered_all (replicate 4096 0) _ c.number.ensures.numbered in
    record {
      table = fresh c.args.states c.number.new.table _ c.number.new.table _ (replicate 4096 1) c.requires c.number.ensures.long c.number.ensures.long refl refl refl numbered numbered ones;
    }

pub returns-clause-apart : goal.returns-clause-apart
returns-clause-apart c = numbered_apart _ (numbered_all (replicate 4096 0) _ c.number.ensures.numbered)
