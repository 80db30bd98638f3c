use Rattle.std.proofs.Common.{nat_eq, ap, ap₂, ◌∙◌}
use Rattle.cs_bits.specs.Numbers.{number}
use Rattle.cs_bits.specs.Checks.{crc24a_of, has_check_24}
use Rattle.cs_bits.proofs.crc.has_check_24.Goals as goal

pub returns : goal.returns
unfolding has_check_24
returns c =
    ap₂ nat_eq (c.number_of.ensures.value ∙ ap number c.split_at.ensures.back) (c.crc24a.ensures.value ∙ ap crc24a_of c.split_at.ensures.front)
