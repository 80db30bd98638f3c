use Rattle.std.proofs.Common.{ℕ, ◌<◌}
use Rattle.std.specs.Prelude.{Ok}
use Rattle.lte_types.specs.declared.sib1.Sib1.{Sib1}
use Rattle.explain.specs.Receiver.{subframes_by}
use Rattle.explain.specs.System.{even_frame, FrameAnswers}
use Rattle.explain.proofs.system.read_frames.Given as goal

-- none of the frames so far has fields
abbrev pub invariant-loop-i : goal.invariant-loop-i
invariant-loop-i g l = (h : ℕ) (fields : Sib1) → h < l.i → FrameAnswers (subframes_by g.S.ReadSlot.carrier g.S.ReadSlot.values_by) l.recording l.place l.mib (even_frame l.sfn h) (Ok fields) → ⊥
