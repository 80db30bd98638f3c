use Rattle.std.proofs.Common.{◌≡◌, ℕ, ◌*◌, ◌^◌, ap, ◌∙◌, subst}
use Rattle.cs_num.specs.declared.Cpx.{Cpx}
use Rattle.cs_num.specs.Complex.{IsWithin, times, conjugate}
use Rattle.lte_types.specs.declared.carrier.Carrier.TheVariants.{LongPrefix}
use Rattle.crs.specs.Reference.{long_prefix}
use Rattle.soft_bits.specs.Kept.{SeenLine, slot_of, along}
use Rattle.soft_bits.specs.Lines.{line_of}
use Rattle.soft_bits.specs.Soft.{SeenSlot, seen_at, soft_pair, pattern_channel}
use Rattle.soft_bits.proofs.Lines.{is_line, along_is, line_channel_is}
use Rattle.long_prefix.specs.Entries.{ArePilots, long_pair}
use Rattle.long_prefix.proofs.reading.pair_at.Goals as goal

pub soft_pair-requires-clause-channel : goal.soft_pair-requires-clause-channel
unfolding ArePilots
soft_pair-requires-clause-channel c =
    subst (λ (step : ℕ). IsWithin (step * (180 * 2 ^ 25)) c.channel.result) (ap (λ (line : SeenLine). line.step) c.requires.pilots) c.channel.ensures.small

pub returns-clause-values : goal.returns-clause-values
unfolding long_pair ArePilots
returns-clause-values c =
    let slot : SeenSlot = slot_of c.args.seen.now in
    let k : ℕ = c.args.place.k in
    let seen : Cpx = seen_at slot c.args.place.symbol k in
    let channel : c.channel.result ≡ pattern_channel long_prefix slot k = c.channel.ensures.value ∙ ap (λ (line : SeenLine). along line k) c.requires.pilots
    ∙ along_is (line_of LongPrefix 0 slot) (is_line LongPrefix 0 slot) slot k ∙ line_channel_is LongPrefix slot k in
    c.soft_pair.ensures.values
    ∙ ap (λ (z : Cpx). soft_pair (times seen (conjugate z)) c.args.energy) channel
    ∙ ap (λ (n : ℕ). soft_pair (times seen (conjugate (pattern_channel long_prefix slot k))) n) c.requires.energy
