use Rattle.std.proofs.Common.{◌≡◌, ℕ, ◌<◌, List, ℤ, All, length}
use Rattle.explain.specs.Entries.{IsMasterFor}
use Rattle.explain.specs.Received.{AreReceived}
use Rattle.explain.specs.Window.{NoneIsDecoded}
use Rattle.explain.proofs.masters.first_alone.Given as goal

-- no frame so far carries a MIB, and each was received
abbrev pub invariant-loop-frame : goal.invariant-loop-frame
invariant-loop-frame g l = record {
  none : (i : ℕ) → i < l.frame → NoneIsDecoded (IsMasterFor g.F.FrameReader.receiver l.recording) l.cell 1 i;
  received : AreReceived (g.F.FrameReader.receiver.broadcast l.recording l.cell) 0 l.frames.items;
  sizes : All (λ (frame : List ℤ). length frame ≡ g.F.FrameReader.receiver.count) l.frames.items;
  count : length l.frames.items ≡ l.frame;
}
