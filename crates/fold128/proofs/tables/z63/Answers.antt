use Rattle.std.proofs.Common.{◌∙◌, ap, sym}
use Rattle.cs_num.specs.Complex.{conjugate}
use Rattle.fold128.proofs.Entries.{z_low, z_high}
use Rattle.fold128.proofs.tables.z63.Goals as goal

pub returns-then-place-le31 : goal.returns-then-place-le31
returns-then-place-le31 c = c.z_half_of.ensures.value ∙ sym (z_low c.args.m c.if-place-le31.true)

pub returns-else-place-le31 : goal.returns-else-place-le31
returns-else-place-le31 c = c.conj.ensures ∙ ap conjugate c.z_half_of-else-place-le31.ensures.value ∙ sym (z_high c.args.m c.if-place-le31.false)
