use Rattle.std.proofs.Common.{◌≡◌, ℕ, ◌*◌, ◌%◌, ◌<◌, ◌≤◌, length, slice_index_or}
use Rattle.cs_num.specs.Complex.{times}
use Rattle.fold128.specs.Tables.{w_at}
use Rattle.fold128.specs.Folding.{added, empty_quartet}
use Rattle.fold128.proofs.symbol.add_tone.Given as goal

abbrev pub invariant-loop-m : goal.invariant-loop-m
invariant-loop-m l = record {
  whole : length l.parts ≡ 32;
  done : (j : ℕ) → j < l.m → slice_index_or l.parts j empty_quartet ≡ added (slice_index_or l.fn.parts j empty_quartet) (l.frequency % 4) (times l.value (w_at (l.frequency * j)));
  rest : (j : ℕ) → l.m ≤ j → slice_index_or l.parts j empty_quartet ≡ slice_index_or l.fn.parts j empty_quartet;
}
