use Rattle.std.proofs.Common.{◌∙◌, ◌*◌, ◌/◌, ◌^◌, ◌<◌, ap, ap₂, sym, subst, ℕ}
use Rattle.cs_num.specs.declared.Cpx.{Cpx}
use Rattle.cs_num.specs.Complex.{IsWithin, multiple, largest_part}
use Rattle.wide_slot.proofs.Lengths.{channel-within, channel_has_room}
use Rattle.wide_slot.proofs.slot.scaled_channel.Goals as goal

pub scaled-requires : goal.scaled-requires
scaled-requires c =
    subst (λ (s : ℕ). c.args.scale / s * largest_part c.channel.result < 2 ^ 63) (sym c.step.ensures.value)
    (channel_has_room c.args.scale c.args.line.now.step c.channel.result c.requires c.channel.ensures.small)

pub returns-clause-value : goal.returns-clause-value
returns-clause-value c =
    c.scaled.ensures ∙ ap₂ (λ (s : ℕ) (z : Cpx). multiple (c.args.scale / s) z) c.step.ensures.value c.channel.ensures.value

pub returns-clause-small : goal.returns-clause-small
returns-clause-small c =
    subst (IsWithin (8640 * 2 ^ 25)) (sym (c.scaled.ensures ∙ ap (λ (s : ℕ). multiple (c.args.scale / s) c.channel.result) c.step.ensures.value))
    (channel-within c.args.scale c.args.line.now.step c.channel.result c.requires c.channel.ensures.small)
