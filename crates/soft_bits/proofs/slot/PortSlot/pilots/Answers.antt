use Rattle.std.proofs.Common.{◌∙◌, ℕ, List, ap, get_or}
use Rattle.finite.proofs.Lists.{values_below_at}
use Rattle.lte_types.specs.Carrier.{ports_of}
use Rattle.soft_bits.specs.Kept.{SeenLine, seen_line}
use Rattle.soft_bits.specs.Lines.{line_of}
use Rattle.soft_bits.specs.Soft.{SeenSlot}
use Rattle.soft_bits.proofs.slot.PortSlot.pilots.Goals as goal

pub returns : goal.returns
returns g c =
    let carrier = g.K.Ports.pairing.carrier in
    let slot : SeenSlot = record { symbols = c.self.inside.symbols; number = c.self.inside.number; identity = c.self.inside.id } in
    let one = c.index-deref-port.result in
    c.index-deref-port.is
    ∙ ap (λ (lines : List SeenLine). get_or lines c.args.port one) (c.deref.ensures.0 ∙ c.self.invariant.each)
    ∙ values_below_at (λ (port : ℕ). seen_line (line_of carrier port slot) slot) (ports_of carrier) c.args.port one c.requires
    ∙ ap (λ (s : SeenSlot). seen_line (line_of carrier c.args.port s) s) c.self.view_is
