use Rattle.std.proofs.Common.{◌*◌, ◌^◌}
use Rattle.wide_slot.proofs.Bounds.{value-within, weighted-within, two_have_room, three_have_room}
use Rattle.wide_slot.proofs.pilots.smoothed_value.Goals as goal

pub add-requires : goal.add-requires
add-requires c =
    rw (c.scaled-before.ensures, c.scaled-here.ensures, c.value_at.ensures, c.value_at-2.ensures)
    (two_have_room c.args.weights.outer c.args.weights.middle _ _ c.requires.weights.few (value-within (180 * 2 ^ 25) c.args.pilots.now _ c.requires.pilots) (value-within (180 * 2 ^ 25) c.args.pilots.now _ c.requires.pilots))

pub add-requires-2 : goal.add-requires-2
add-requires-2 c =
    rw (c.add.ensures, c.scaled-before.ensures, c.scaled-here.ensures, c.scaled-after.ensures, c.value_at.ensures, c.value_at-2.ensures, c.value_at-3.ensures)
    (three_have_room c.args.weights.outer c.args.weights.middle _ _ _ c.requires.weights.few (value-within (180 * 2 ^ 25) c.args.pilots.now _ c.requires.pilots) (value-within (180 * 2 ^ 25) c.args.pilots.now _ c.requires.pilots) (value-within (180 * 2 ^ 25) c.args.pilots.now _ c.requires.pilots))

pub returns-clause-small : goal.returns-clause-small
returns-clause-small c =
    rw (c.add-2.ensures, c.add.ensures, c.scaled-before.ensures, c.scaled-here.ensures, c.scaled-after.ensures, c.value_at.ensures, c.value_at-2.ensures, c.value_at-3.ensures)
    (weighted-within c.args.weights.outer c.args.weights.middle _ _ _ c.requires.weights.few (value-within (180 * 2 ^ 25) c.args.pilots.now _ c.requires.pilots) (value-within (180 * 2 ^ 25) c.args.pilots.now _ c.requires.pilots) (value-within (180 * 2 ^ 25) c.args.pilots.now _ c.requires.pilots))
