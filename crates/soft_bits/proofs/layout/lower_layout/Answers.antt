use Rattle.soft_bits.specs.Kept.{slot_of}
use Rattle.soft_bits.proofs.Layouts.{lower_is}
use Rattle.soft_bits.proofs.layout.lower_layout.Goals as goal

pub returns-clause-line : goal.returns-clause-line
returns-clause-line c = lower_is c.args.pattern (slot_of c.args.seen.now) _ _ c.n2.ensures.value c.first_of_pattern.ensures.value
