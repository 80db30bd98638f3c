use Rattle.cs_num.proofs.Complex.{multiple-within}
use Rattle.wide_slot.proofs.Bounds.{value-within}
use Rattle.wide_slot.proofs.line.line.Goals as goal

pub returns-else-k-first-2-clause-small : goal.returns-else-k-first-2-clause-small
returns-else-k-first-2-clause-small c =
    rw (c.scaled-else-k-first-2.ensures, c.value_at-else-k-first-2.ensures) (multiple-within c.args.step _ 48318382080 (value-within 48318382080 c.args.pilots.now _ c.requires.pilots))
