use Rattle.std.proofs.Common.{◌≡◌, ℕ, ◌<◌, All, length, slice_index_or}
use Rattle.cs_num.specs.Complex.{sample_at}
use Rattle.fold128.specs.Folding.{quartet_at, empty_quartet, AreWithin}
use Rattle.fold128.proofs.spectrum.fold.Given as goal

abbrev pub invariant-loop-m : goal.invariant-loop-m
invariant-loop-m l = record {
  whole : length l.folded ≡ 32;
  each : (k : ℕ) → k < l.m → slice_index_or l.folded k empty_quartet ≡ quartet_at (sample_at l.samples) k;
  small : All (AreWithin 131072) l.folded;
}
