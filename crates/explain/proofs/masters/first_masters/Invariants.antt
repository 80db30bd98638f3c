use Rattle.std.proofs.Common.{ℕ, ◌<◌, ◌≤◌}
use Rattle.explain.specs.Entries.{IsMasterFor}
use Rattle.explain.specs.Received.{NoneDecodes}
use Rattle.explain.proofs.masters.first_masters.Given as goal

-- no fewer frames carry a MIB
abbrev pub invariant-loop-count : goal.invariant-loop-count
invariant-loop-count g l = (few : ℕ) → 1 ≤ few → few < l.count → NoneDecodes (IsMasterFor g.F.FrameReader.receiver l.recording) l.cell l.whole few
