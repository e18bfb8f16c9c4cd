use Rattle.std.proofs.Common.{false}
use Rattle.std.proofs.lemmas.List.{get_or-replicate}
use Rattle.search.proofs.seen.Seen.none.Goals as goal

pub returns : goal.returns
returns c = λ x h. get_or-replicate 4096 x false false h
