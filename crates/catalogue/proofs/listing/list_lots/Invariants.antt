use Rattle.std.proofs.Common.{◌≡◌, ◌-◌, ◌<◌, ◌≤◌, [], length, take, vec_items}
use Rattle.catalogue.specs.Entries.{longest}
use Rattle.catalogue.specs.Lines.{Lines}
use Rattle.catalogue.specs.Listing.{values}
use Rattle.catalogue.proofs.listing.list_lots.Given as goal

abbrev pub invariant-loop-lot : goal.invariant-loop-lot
invariant-loop-lot l = record {
  text : l.reader.text.now ≡ l.text;
  within : l.reader.at ≤ length l.text;
  lines : Lines (take l.reader.at l.text) (values (vec_items l.lots));
  long : longest < length l.text → values (vec_items l.lots) ≡ [];
}

abbrev pub decreases-loop-lot : goal.decreases-loop-lot
decreases-loop-lot l = length l.text - l.reader.at
