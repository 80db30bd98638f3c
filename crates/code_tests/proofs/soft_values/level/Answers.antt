use Rattle.std.proofs.Common.{◌^◌}
use Rattle.std.proofs.lemmas.List.Elements.{All-replicate}
use Rattle.cs_num.specs.Complex.{IsWithin}
use Rattle.code_tests.proofs.soft_values.level.Goals as goal

pub returns : goal.returns
returns c = All-replicate (IsWithin (2 ^ 25)) 72 c.args.value c.requires
