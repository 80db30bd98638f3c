use Rattle.std.proofs.Common.{◌∙◌, ap}
use Rattle.wide_slot.specs.Slot.{WideSeen}
use Rattle.wide_list.proofs.Slots.{slot_number}
use Rattle.wide_list.proofs.tried.frame_in.Goals as goal

pub of_slots-requires-clause-first : goal.of_slots-requires-clause-first
of_slots-requires-clause-first c =
    let found = c.args.found.now in
    ap (λ (slot : WideSeen). slot.slot.number) c.in_ok-first.ensures ∙ slot_number c.args.wide.now found.cell found.start c.args.j 10

pub of_slots-requires-clause-second : goal.of_slots-requires-clause-second
of_slots-requires-clause-second c =
    let found = c.args.found.now in
    ap (λ (slot : WideSeen). slot.slot.number) c.in_ok-second.ensures ∙ slot_number c.args.wide.now found.cell found.start c.args.j 11
