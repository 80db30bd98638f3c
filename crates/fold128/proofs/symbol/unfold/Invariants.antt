use Rattle.std.proofs.Common.{◌≡◌, ℕ, ◌<◌, All, length, slice_index_or}
use Rattle.fold128.specs.Folding.{unfolded, empty_quartet, AreWithin}
use Rattle.fold128.proofs.symbol.unfold.Given as goal

abbrev pub invariant-loop-m : goal.invariant-loop-m
invariant-loop-m l = record {
  whole : length l.samples ≡ 32;
  each : (k : ℕ) → k < l.m → slice_index_or l.samples k empty_quartet ≡ unfolded (slice_index_or l.parts k empty_quartet);
  small : All (AreWithin 4294967296) l.samples;
}
