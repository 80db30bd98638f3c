use Rattle.std.proofs.Common.{◌≡◌, ◌+◌, slice_index_or}
use Rattle.finite.specs.Lists.{values_below}
use Rattle.cs_num.specs.Complex.{silence}
use Rattle.accumulated_pss.proofs.half_frame.window.Given as goal

abbrev pub invariant-loop-k : goal.invariant-loop-k
invariant-loop-k l = l.copy.items ≡ values_below l.k (λ k. slice_index_or l.samples (l.start + k) silence)
