use Rattle.std.proofs.Common.{◌≡◌, ℕ, ◌+◌, ◌*◌, ◌%◌, ◌<◌, length, get_or, false}
use Rattle.turbo_code.specs.Reading.{bit_of, item_of}
use Rattle.turbo_code.specs.Walk.{standing}
use Rattle.turbo_code.proofs.matching.match_all.Given as goal

abbrev pub invariant-loop-i : goal.invariant-loop-i
invariant-loop-i l = record {
  whole : length l.bits ≡ length l.fn.bits;
  each : (k : ℕ) → k < l.i → get_or l.bits k false ≡ bit_of l.coded.d (item_of l.coded.k l.rv k);
  at : l.walk ≡ standing l.coded.k l.rv (l.i % (3 * (l.coded.k + 4)));
}
