use Rattle.std.proofs.Common.{pos, arith}
use Rattle.std.proofs.lemmas.List.Elements.{All-replicate}
use Rattle.cs_num.specs.Complex.{IsWithin}
use Rattle.explain.proofs.frame.zeros.Goals as goal

pub returns : goal.returns
returns c = All-replicate (IsWithin 33554432) 72 (record { re = pos 0; im = pos 0 }) (record { re = omega arith; im = omega arith })
