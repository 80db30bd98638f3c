use Rattle.std.proofs.Common.{ap, ◌∙◌}
use Rattle.grid_map.specs.Place.{place}
use Rattle.grid_map.proofs.LongOrder.{early_place, middle_place, late_place}
use Rattle.grid_map.proofs.long_broadcast.place_at.Goals as goal

pub returns-then-i-lt96-clause-place : goal.returns-then-i-lt96-clause-place
returns-then-i-lt96-clause-place c =
    ap (place _) c.free_subcarrier.ensures.value ∙ early_place c.args.id c.n2-shift.result c.args.i c.n2-shift.ensures.value c.if-i-lt96.true

pub returns-then-i-lt168-clause-place : goal.returns-then-i-lt168-clause-place
returns-then-i-lt168-clause-place c = middle_place c.args.id c.args.i c.if-i-lt96.false c.if-i-lt168.true

pub returns-else-i-lt168-clause-place : goal.returns-else-i-lt168-clause-place
returns-else-i-lt168-clause-place c =
    ap (place _) c.free_subcarrier-else-i-lt168.ensures.value ∙ late_place c.args.id c.n2-shift.result c.args.i c.n2-shift.ensures.value c.if-i-lt168.false c.requires
