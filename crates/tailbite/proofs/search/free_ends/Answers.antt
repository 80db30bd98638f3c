use Rattle.std.proofs.lemmas.List.{get_or-replicate}
use Rattle.tailbite.proofs.search.free_ends.Goals as goal

pub returns : goal.returns
returns c x below = get_or-replicate 64 x 0 0 below
