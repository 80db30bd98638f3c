use Rattle.std.proofs.Common.{◌∙◌, ap}
use Rattle.cs_num.specs.declared.Cpx.{Cpx}
use Rattle.cs_num.specs.Complex.{times, conjugate}
use Rattle.cs_num.proofs.Complex.{times-commutes}
use Rattle.wide_slot.proofs.amplitude.Amplitude.of_one.Goals as goal

pub returns-clause-value : goal.returns-clause-value
returns-clause-value c =
    c.product.ensures.value ∙ ap (λ (h : Cpx). times h c.args.seen) c.conj.ensures ∙ times-commutes (conjugate c.args.channel) c.args.seen
