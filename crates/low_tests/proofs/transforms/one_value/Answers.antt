use Rattle.std.proofs.Common.{arith, replicate}
use Rattle.std.proofs.lemmas.List.Elements.{All-set, All-replicate}
use Rattle.cs_num.specs.Complex.{IsWithin, nothing}
use Rattle.low_tests.proofs.transforms.one_value.Goals as goal

pub returns : goal.returns
returns c = All-set (IsWithin 127) (replicate 72 nothing) c.args.k c.args.value c.requires.small (All-replicate (IsWithin 127) 72 nothing (record { re = omega arith; im = omega arith }))
