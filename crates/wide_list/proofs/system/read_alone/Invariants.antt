use Rattle.std.proofs.Common.{◌≡◌, ℕ, ◌<◌, Ok, Err, length}
use Rattle.std.specs.List.{HoldsAt}
use Rattle.lte_types.specs.declared.sib1.Sib1.{Sib1}
use Rattle.explain.specs.System.{even_frame}
use Rattle.wide_list.specs.Frames.{IsFrame, IsAlone}
use Rattle.wide_list.proofs.system.read_alone.Given as goal

-- the frames so far were received, and none has fields alone
abbrev pub invariant-loop-i : goal.invariant-loop-i
invariant-loop-i l = record {
  size : length l.frames.items ≡ l.i;
  each : (h : ℕ) → h < l.i → HoldsAt (IsFrame l.wide l.found.cell l.found.start l.found.sfn (even_frame l.found.sfn h)) l.frames.items h;
  none : (h : ℕ) (fields : Sib1) → h < l.i → IsAlone l.wide l.found.cell l.found.start l.found.sfn (even_frame l.found.sfn h) (Ok fields) → ⊥;
  first : 0 < l.i → IsAlone l.wide l.found.cell l.found.start l.found.sfn (even_frame l.found.sfn 0) (Err l.reason);
}
