use Rattle.std.proofs.Common.{sym, ◌∙◌}
use Rattle.grid_map.proofs.Carried.{group_is_first, some_group}
use Rattle.grid_map.proofs.candidate.group_of.Goals as goal

pub returns-then-quadruplet-q-clause-value : goal.returns-then-quadruplet-q-clause-value
returns-then-quadruplet-q-clause-value c =
    sym (group_is_first c.args.id c.args.count c.args.q c.loop-r.r c.loop-r-test.true c.loop-r.invariant (sym c.quadruplet.ensures.value ∙ c.if-quadruplet-q.true))

pub unreachable-requires : goal.unreachable-requires
unreachable-requires c = some_group c.args.id c.args.count c.args.q c.loop-r.r c.requires.q c.loop-r-test.false c.loop-r.invariant
