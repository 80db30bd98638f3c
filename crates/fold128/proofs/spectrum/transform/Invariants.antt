use Rattle.std.proofs.Common.{◌≡◌, ℕ, ◌<◌, All, length}
use Rattle.cs_num.specs.Complex.{IsWithin, value_at, sample_at}
use Rattle.fold128.specs.Spectrum.{spectrum_at}
use Rattle.fold128.proofs.spectrum.transform.Given as goal

abbrev pub invariant-loop-k : goal.invariant-loop-k
invariant-loop-k l = record {
  whole : length l.out ≡ 72;
  each : (k : ℕ) → k < l.k → value_at l.out k ≡ spectrum_at (sample_at l.fn.samples) k;
  small : All (IsWithin 97182023680) l.out;
}
