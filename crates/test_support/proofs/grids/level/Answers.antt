use Rattle.std.proofs.lemmas.List.Elements.{All-replicate}
use Rattle.cs_num.specs.Complex.{IsWithin}
use Rattle.test_support.proofs.grids.level.Goals as goal

pub returns : goal.returns
returns c n within = All-replicate (IsWithin n) 72 c.args.value within
