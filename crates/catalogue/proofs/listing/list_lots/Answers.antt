use Rattle.std.proofs.Common.{◌≡◌, [], ◌∷◌, ◌++◌, take, Ok, Err, vec_items, sym, ap, ◌∙◌, subst, arith, rules}
use Rattle.std.proofs.lemmas.List.{map_push}
use Rattle.catalogue.specs.declared.entry.Entry.TheVariants.{Lot as LotCase, End}
use Rattle.catalogue.specs.Entries.{Entered, told}
use Rattle.catalogue.specs.Lines.{Lines}
use Rattle.catalogue.specs.Listing.{values}
use Rattle.catalogue.proofs.Listed.{lines_next, listed_refused, listed_whole}
use Rattle.catalogue.proofs.listing.list_lots.Goals as goal
use Rattle.catalogue.proofs.listing.list_lots.Goals.{in-Ok-End, in-Err}

pub loop-lot-preserved : goal.loop-lot-preserved
loop-lot-preserved c =
    let text = c.args.text.now in
    let at = c.loop-lot.reader.at in
    let next = c.next.new.self.at in
    let lots = values (vec_items c.loop-lot.lots) in
    let lot = c.in-Ok-Lot.lot in
    let e : Entered text at (Ok (LotCase lot)) next = search rules in
    let pushed : values (vec_items c.push.new.self) ≡ lots ++ told lot ∷ [] = ap values c.in_ok-push-in-Ok-Lot.ensures.items ∙ map_push told (vec_items c.loop-lot.lots) lot in
    record {
      text = search rules;
      within = e.1.1.within;
      lines = subst (Lines (take next text)) (sym pushed) (lines_next text at lots (told lot) next e.1.0 c.loop-lot.invariant.lines e.1.1);
      long = λ long. absurd (omega (arith, e.0));
    }

pub returns-clause-listed : goal.returns-clause-listed
returns-clause-listed c =
    let text = c.args.text.now in
    let at = c.loop-lot.reader.at in
    let lots = values (vec_items c.loop-lot.lots) in
    let i = c.loop-lot.invariant in
    elim c.match-next.branch [
      | in-Ok-End w ↦
          let e : Entered text at (Ok End) c.next.new.self.at = search rules in
          rw w.fault-is (listed_whole text at lots i.lines e.0 e.1.0)
      | in-Err w ↦
          let e : Entered text at (Err w.in-Err.fault) c.next.new.self.at = search rules in
          rw w.fault-is (listed_refused text at lots w.in-Err.fault i.within i.lines i.long e.0)
    ]
