use Rattle.std.proofs.Common.{◌≡◌, ℕ, ◌*◌, ◌<◌, ◌≤◌, length, get_or}
use Rattle.cs_num.specs.Complex.{plus, sample_at, silence, sample_of}
use Rattle.capture_make.specs.Errors.{error, generator}
use Rattle.capture_make.proofs.errors.add_errors.Given as goal

abbrev pub invariant-loop-i : goal.invariant-loop-i
invariant-loop-i l = record {
  size : length l.samples ≡ length l.fn.samples;
  done : (k : ℕ) → k < l.i → get_or l.samples k silence ≡ sample_of (plus (sample_at l.fn.samples k) (error l.n l.bound k));
  rest : (k : ℕ) → l.i ≤ k → get_or l.samples k silence ≡ get_or l.fn.samples k silence;
  words : l.words ≡ generator l.n (2 * l.i);
}
