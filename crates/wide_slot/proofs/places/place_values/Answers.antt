use Rattle.std.proofs.Common.{◌∙◌, ap, ap₂}
use Rattle.cs_num.specs.declared.Cpx.{Cpx}
use Rattle.cs_num.specs.Complex.{times, conjugate}
use Rattle.wide_slot.specs.Values.{wide_pair, place_values}
use Rattle.wide_slot.proofs.places.place_values.Goals as goal

pub returns : goal.returns
unfolding place_values
returns c =
    c.soft_pair.ensures.values
    ∙ ap (wide_pair c.args.slot.now)
    (c.of_one-amplitude.ensures.value ∙ ap₂ (λ (a h : Cpx). times a (conjugate h)) c.seen-seen.ensures.value c.channel.ensures.value)
