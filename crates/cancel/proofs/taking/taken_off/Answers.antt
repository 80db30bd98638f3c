use Rattle.std.proofs.Common.{◌∙◌, ap, length, List}
use Rattle.finite.proofs.Lists.{values_below-length}
use Rattle.cs_num.specs.declared.Sample.{Sample}
use Rattle.cs_num.specs.Rounding.{nearest_sample}
use Rattle.cancel.specs.Steps.{left_of}
use Rattle.cancel.proofs.taking.taken_off.Goals as goal

pub recording_of-residue-requires : goal.recording_of-residue-requires
recording_of-residue-requires c =
    ap (λ (s : List Sample). length s) c.in_ok-samples.ensures
    ∙ values_below-length (length c.as_slice.result.now) (λ i. nearest_sample (left_of c.as_slice.result.now c.args.sent.now c.args.choice.gain i))
    ∙ ap (λ (s : List Sample). length s) c.as_slice.ensures.value
