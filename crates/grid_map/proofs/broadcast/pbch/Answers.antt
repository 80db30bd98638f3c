use Rattle.std.proofs.Common.{ap, sym, ◌∙◌, Some}
use Rattle.grid_map.proofs.Points.{slice_get-pbch_places, place_in_shared, place_in_whole, places_inside}
use Rattle.grid_map.specs.Broadcast.{is_pbch}
use Rattle.grid_map.proofs.broadcast.pbch.Goals as goal

pub returns-then-i-lt96-clause-place : goal.returns-then-i-lt96-clause-place
returns-then-i-lt96-clause-place c =
    place_in_shared c.args.id c.n2.result c.args.i c.skipping.result c.n2.ensures.value c.if-i-lt96.true c.skipping.ensures

pub returns-then-i-lt96-clause-item : goal.returns-then-i-lt96-clause-item
returns-then-i-lt96-clause-item c =
    slice_get-pbch_places c.args.id c.args.i c.requires ∙ ap Some (sym (returns-then-i-lt96-clause-place c))

pub returns-else-i-lt96-clause-place : goal.returns-else-i-lt96-clause-place
returns-else-i-lt96-clause-place c = place_in_whole c.args.id c.args.i c.if-i-lt96.false c.requires

pub returns-else-i-lt96-clause-item : goal.returns-else-i-lt96-clause-item
returns-else-i-lt96-clause-item c =
    slice_get-pbch_places c.args.id c.args.i c.requires ∙ ap Some (sym (returns-else-i-lt96-clause-place c))

pub returns-then-i-lt96-clause-carries : goal.returns-then-i-lt96-clause-carries
returns-then-i-lt96-clause-carries c =
    ap (is_pbch c.args.id) (returns-then-i-lt96-clause-place c) ∙ places_inside c.args.id c.args.i c.requires

pub returns-else-i-lt96-clause-carries : goal.returns-else-i-lt96-clause-carries
returns-else-i-lt96-clause-carries c =
    ap (is_pbch c.args.id) (returns-else-i-lt96-clause-place c) ∙ places_inside c.args.id c.args.i c.requires
