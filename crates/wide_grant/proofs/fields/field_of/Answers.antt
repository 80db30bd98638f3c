use Rattle.std.proofs.Common.{ap, ◌∙◌}
use Rattle.cs_bits.specs.Numbers.{number}
use Rattle.cs_bits.proofs.Numbers.{part_is_range}
use Rattle.wide_grant.proofs.fields.field_of.Goals as goal

pub returns-clause-value : goal.returns-clause-value
returns-clause-value c =
    c.number_of.ensures.value ∙ ap number (part_is_range c.args.bits.now c.args.first c.args.width c.requires.inside)
