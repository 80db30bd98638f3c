use Rattle.std.proofs.Common.{◌≡◌, ℕ, ◌<◌, ◌≤◌, length, slice_index_or}
use Rattle.cs_num.specs.Complex.{silence, sample_at}
use Rattle.frequency_offset.specs.Turned.{turned_back}
use Rattle.wide_turn.specs.Turned.{angle}
use Rattle.wide_turn.proofs.turning.turn.Given as goal

abbrev pub invariant-loop-i : goal.invariant-loop-i
invariant-loop-i l = record {
  whole : length l.samples ≡ length l.fn.samples;
  done : (k : ℕ) → k < l.i → slice_index_or l.samples k silence ≡ turned_back (sample_at l.fn.samples k) l.centre (angle l.rate l.m k);
  left : (k : ℕ) → l.i ≤ k → slice_index_or l.samples k silence ≡ slice_index_or l.fn.samples k silence;
}
