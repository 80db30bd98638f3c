use Rattle.std.proofs.Common.{◌∙◌, ap}
use Rattle.gold.specs.Register.{low_bits}
use Rattle.gold.proofs.Registers.{masked-fits, x2_later}
use Rattle.gold.proofs.later_x2.Goals as goal

pub shift_in-requires-clause-bits : goal.shift_in-requires-clause-bits
shift_in-requires-clause-bits c = masked-fits _

pub returns-clause-later : goal.returns-clause-later
returns-clause-later c = ap (low_bits 31) c.shift_in.ensures ∙ x2_later c.args.register c.requires
