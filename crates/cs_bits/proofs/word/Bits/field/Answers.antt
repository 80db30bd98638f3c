use Rattle.std.proofs.Common.{arith, ap, ◌∙◌}
use Rattle.cs_bits.specs.Numbers.{number}
use Rattle.cs_bits.proofs.Numbers.{part_is_range}
use Rattle.cs_bits.proofs.word.Bits.field.Goals as goal

pub returns-clause-value : goal.returns-clause-value
returns-clause-value g c =
    c.number_of.ensures.value
    ∙ rw c.slice.ensures.bits (ap number (part_is_range c.args.self.now c.args.first c.args.width (let size = c.slice.ensures.count in omega (arith, size, c.requires.inside))))
