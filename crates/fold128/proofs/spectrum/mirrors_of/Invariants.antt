use Rattle.std.proofs.Common.{◌≡◌, ℕ, ◌<◌, All, length, slice_index_or}
use Rattle.fold128.specs.Folding.{mirror_at, empty_mirror, IsSmallMirror}
use Rattle.fold128.proofs.spectrum.mirrors_of.Given as goal

abbrev pub invariant-loop-m : goal.invariant-loop-m
invariant-loop-m l = record {
  whole : length l.row ≡ 17;
  each : (k : ℕ) → k < l.m → slice_index_or l.row k empty_mirror ≡ mirror_at l.folded l.residue k;
  small : All IsSmallMirror l.row;
}
