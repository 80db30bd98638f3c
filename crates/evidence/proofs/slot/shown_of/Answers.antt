use Rattle.std.proofs.Common.{◌≡◌, ℕ, ◌<◌, List, [], ℤ, ◌∙◌, arith, ap, ap₂, subst}
use Rattle.lte_types.specs.Carrier.{ports_of}
use Rattle.soft_bits.specs.Pairs.{valued_by}
use Rattle.soft_bits.specs.Soft.{SeenSlot}
use Rattle.explain.specs.Frame.{broadcast_slot}
use Rattle.pbch.specs.Values.{received_values_by}
use Rattle.evidence.specs.Evidence.{shown_by}
use Rattle.evidence.proofs.PortByPort.{first_ports, none_yet, one_more, has_room, port_is_close}
use Rattle.evidence.proofs.slot.shown_of.Goals as goal

pub loop-port-init : goal.loop-port-init
loop-port-init g c =
    c.new-shown.ensures ∙ ap₂ (λ (e : ℕ) (values : List ℤ). record { power = e; differences = 0; channel = []; values = values }) c.energy.ensures.value c.received.ensures.values
    ∙ none_yet g.K.Ports.pairing.carrier c.slot_of-slot.result _

pub add-requires-clause-room : goal.add-requires-clause-room
add-requires-clause-room g c =
    has_room g.K.Ports.pairing.carrier c.slot_of-slot.result _ c.loop-port.port c.loop-port.shown c.loop-port.invariant
    (subst (λ n. c.loop-port.port < n) (c.ports-port-end.ensures ∙ ap ports_of c.carrier.ensures.value) c.loop-port-test.true)

pub add-requires-clause-some : goal.add-requires-clause-some
add-requires-clause-some g c = (port_is_close g.K.Ports.pairing.carrier c.slot_of-slot.result c.loop-port.port c.pilots.result.now c.pilots.ensures).some

pub loop-port-preserved : goal.loop-port-preserved
loop-port-preserved g c =
    c.add.ensures ∙ one_more g.K.Ports.pairing.carrier c.slot_of-slot.result _ c.loop-port.port c.loop-port.shown c.pilots.result.now c.loop-port.invariant c.pilots.ensures

pub returns : goal.returns
returns g c =
    let carrier = g.K.Ports.pairing.carrier in
    let last : c.loop-port.port ≡ c.ports-port-end.result = omega arith in
    let slot : c.slot_of-slot.result ≡ broadcast_slot c.args.recording.now c.args.place.id c.args.place.start c.args.j = c.slot_of-slot.ensures in
    c.loop-port.invariant ∙ ap (first_ports carrier c.slot_of-slot.result _) (last ∙ c.ports-port-end.ensures ∙ ap ports_of c.carrier.ensures.value)
    ∙ ap (λ (s : SeenSlot). shown_by carrier s (received_values_by (valued_by g.K.Ports.pairing) s)) slot
