use Rattle.std.proofs.Common.{◌∙◌, ap, arith, length}
use Rattle.cs_num.proofs.Complex.{within_more}
use Rattle.cs_num.proofs.Rounding.{quotient-within}
use Rattle.cs_num.specs.declared.Cpx.{Cpx}
use Rattle.cs_num.specs.Rounding.{quotient}
use Rattle.frequency_offset.specs.Turned.{mean}
use Rattle.frequency_offset.proofs.centred.mean.Goals as goal

pub quotient-requires-clause-magnitude : goal.quotient-requires-clause-magnitude
quotient-requires-clause-magnitude c = within_more c.sum_of.result _ _ c.sum_of.ensures.small (omega arith)

pub returns-clause-value : goal.returns-clause-value
unfolding mean
returns-clause-value c = c.quotient.ensures ∙ ap (λ (z : Cpx). quotient z (length c.args.samples.now)) c.sum_of.ensures.value

pub returns-clause-small : goal.returns-clause-small
returns-clause-small c = rw c.quotient.ensures (quotient-within c.sum_of.result (length c.args.samples.now) 32768 (omega arith) c.sum_of.ensures.small)
