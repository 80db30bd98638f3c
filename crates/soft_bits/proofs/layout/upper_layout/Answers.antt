use Rattle.soft_bits.specs.Kept.{slot_of}
use Rattle.soft_bits.proofs.Layouts.{upper_is}
use Rattle.soft_bits.proofs.layout.upper_layout.Goals as goal

pub returns-clause-line : goal.returns-clause-line
returns-clause-line c = upper_is c.args.port _ (slot_of c.args.seen.now) c.first_of_upper-first.ensures.value
