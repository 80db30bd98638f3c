use Rattle.std.proofs.Common.{take}
use Rattle.std.specs.Prelude.{All}
use Rattle.wide_grid.specs.Candidate.{candidates}
use Rattle.wide_control.specs.Control.{searches_among, AreGrants, IsBounded}
use Rattle.wide_control.proofs.control.grants_in.Given as goal

abbrev pub invariant-loop-i : goal.invariant-loop-i
invariant-loop-i l = record {
  grants : AreGrants l.slot l.sfn l.groups (searches_among l.elements (take l.i candidates)) l.grants.items;
  bounded : All IsBounded l.grants.items;
}
