use Rattle.std.proofs.Common.{◌≡◌, ◌/◌, length}
use Rattle.std.specs.Prelude.{All}
use Rattle.finite.specs.Lists.{values_below}
use Rattle.cs_num.specs.Complex.{IsWithin, sample_at}
use Rattle.tones.specs.Folding.{folded_at}
use Rattle.tones.proofs.folding.fold.Given as goal

abbrev pub invariant-loop-n : goal.invariant-loop-n
invariant-loop-n l = record {
  value : l.folded.items ≡ values_below l.n (folded_at (length l.samples / 4) (sample_at l.samples));
  small : All (IsWithin 131072) l.folded.items;
}
