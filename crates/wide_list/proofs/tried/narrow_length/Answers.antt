use Rattle.std.proofs.Common.{◌∙◌, ◌/◌, ◌^◌, List, length, ap, ap₂, sym}
use Rattle.cs_num.specs.declared.Sample.{Sample}
use Rattle.wide_list.proofs.Lengths.{length-halved_by}
use Rattle.wide_list.proofs.tried.narrow_length.Goals as goal

pub returns-clause-value : goal.returns-clause-value
returns-clause-value c =
    let wide = c.args.wide.now in
    ap₂ (λ many rate. many / 2 ^ rate) (ap (λ (samples : List Sample). length samples) c.as_slice.ensures.value) c.rate.ensures.value
    ∙ sym (length-halved_by wide.rate wide.samples c.rate.ensures.valid.rate)
