use Rattle.std.proofs.Common.{ℕ, ◌<◌, List}
use Rattle.cs_num.specs.declared.Sample.{Sample}
use Rattle.explain.specs.Entries.{IsMasterFor}
use Rattle.explain.specs.Received.{AreReceived}
use Rattle.explain.specs.Window.{NoneIsDecoded}
use Rattle.explain.proofs.masters.first_together.Given as goal

-- no frames that begin earlier carry a MIB
abbrev pub invariant-loop-frame : goal.invariant-loop-frame
invariant-loop-frame g l =
    (recording : List Sample) → AreReceived (g.F.FrameReader.receiver.broadcast recording l.cell) 0 l.frames →
    (i : ℕ) → i < l.frame → NoneIsDecoded (IsMasterFor g.F.FrameReader.receiver recording) l.cell l.count i
