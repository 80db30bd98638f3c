use Rattle.std.proofs.Common.{◌≡◌, ◌∙◌, ◌*◌, ◌^◌, ◌≤◌, ℕ, arith, ap, ap₂, subst}
use Rattle.cs_num.specs.Complex.{times, conjugate, IsWithin}
use Rattle.cs_num.specs.declared.Cpx.{Cpx}
use Rattle.lte_types.specs.declared.carrier.Carrier.{Carrier}
use Rattle.lte_types.specs.declared.numerology.Prefix.{Prefix}
use Rattle.lte_types.specs.Carrier.{prefix_of}
use Rattle.lte_types.specs.Numerology.{normal, symbols_of_slot, is_extended}
use Rattle.crs.specs.declared.pattern.Pattern.{Pattern}
use Rattle.crs.specs.Reference.{port_0, pattern_of}
use Rattle.std.specs.Prelude.{◌-◌, if◌then◌else◌}
use Rattle.soft_bits.specs.Kept.{SeenLine, along}
use Rattle.soft_bits.specs.Lines.{line_of}
use Rattle.soft_bits.specs.Soft.{SeenSlot, soft_pair, soft_values, channel, pattern_channel, pattern_energy, pilot_energy}
use Rattle.soft_bits.proofs.Lines.{along_is, is_line, line_channel_is, energy_of_one}
use Rattle.soft_bits.proofs.value.soft_of.Goals as goal

-- the first port of a carrier with the normal prefix has the pattern of port 0
pattern_is : (carrier : Carrier) → prefix_of carrier ≡ normal → pattern_of carrier 0 ≡ port_0
pattern_is carrier is =
    ap (λ (prefix : Prefix). let pattern : Pattern = record { later = symbols_of_slot prefix - 3; shift = 0; prefix = if is_extended prefix then 0 else 1 } in pattern) is

pub pilots-requires : goal.pilots-requires
pilots-requires g c = rw c.requires.one (omega arith)

pub soft_pair-requires-clause-channel : goal.soft_pair-requires-clause-channel
soft_pair-requires-clause-channel g c =
    subst (λ (seen : SeenLine). IsWithin (seen.step * (180 * 2 ^ 25)) c.channel.result) c.pilots.ensures c.channel.ensures.small

pub soft_pair-requires-clause-energy : goal.soft_pair-requires-clause-energy
soft_pair-requires-clause-energy g c = subst (λ (n : ℕ). c.energy.result ≤ n * (24 * 2 ^ 51)) c.requires.one c.energy.ensures.few

pub returns-clause-values : goal.returns-clause-values
unfolding soft_values
returns-clause-values g c =
    let slot : SeenSlot = c.args.slot.now in
    let carrier : Carrier = g.K.Ports.pairing.carrier in
    let pattern : pattern_of carrier 0 ≡ port_0 = pattern_is carrier c.requires.normal in
    let along_it : c.channel.result ≡ channel slot c.args.k =
    c.channel.ensures.value
    ∙ ap (λ (seen : SeenLine). along seen c.args.k) c.pilots.ensures
    ∙ along_is (line_of carrier 0 slot) (is_line carrier 0 slot) slot c.args.k
    ∙ line_channel_is carrier slot c.args.k
    ∙ ap (λ (p : Pattern). pattern_channel p slot c.args.k) pattern in
    let energy : c.energy.result ≡ pilot_energy slot =
    c.energy.ensures.value ∙ energy_of_one carrier slot c.requires.one ∙ ap (λ (p : Pattern). pattern_energy p slot) pattern in
    c.soft_pair.ensures.values
    ∙ ap₂ (λ (z : Cpx) (n : ℕ). soft_pair z n) (ap₂ (λ (a b : Cpx). times a (conjugate b)) c.seen.ensures.value along_it) energy
