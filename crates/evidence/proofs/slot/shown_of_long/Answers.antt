use Rattle.std.proofs.Common.{ℕ, List, [], ℤ, ◌∙◌, ap₂}
use Rattle.lte_types.specs.declared.carrier.Carrier.TheVariants.{LongPrefix}
use Rattle.long_prefix.specs.Entries.{long_slot, long_values}
use Rattle.evidence.proofs.PortByPort.{none_yet, one_more, port_is_close}
use Rattle.evidence.proofs.slot.shown_of_long.Goals as goal

pub add-requires-clause-some : goal.add-requires-clause-some
add-requires-clause-some c =
    (port_is_close LongPrefix (long_slot c.args.recording.now c.args.place.id c.args.place.start c.args.j) 0 _ c.long_frame-frame.ensures.pilots).some

pub returns : goal.returns
returns c =
    let slot = long_slot c.args.recording.now c.args.place.id c.args.place.start c.args.j in
    let frame = c.long_frame-frame.ensures in
    c.add.ensures ∙ one_more LongPrefix slot (long_values slot) 0 _ _
    (c.new-shown.ensures ∙ ap₂ (λ (e : ℕ) (values : List ℤ). record { power = e; differences = 0; channel = []; values = values }) frame.energy frame.values
    ∙ none_yet LongPrefix slot (long_values slot)) frame.pilots
