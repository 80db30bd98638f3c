use Rattle.std.proofs.Common.{◌≡◌, take, length}
use Rattle.frequency_offset.proofs.at_turn.Turned.write.Given as goal

abbrev pub invariant-loop-i : goal.invariant-loop-i
invariant-loop-i l = record {
  count : length l.others ≡ length l.initial.others;
  front : take l.i l.others ≡ take l.i l.self;
}
