use Rattle.std.proofs.Common.{◌≡◌, ◌+◌}
use Rattle.pss_search.proofs.recent.Recent.new.Given as goal

abbrev pub invariant-loop : goal.invariant-loop
invariant-loop l = record {
  recording : l.recent.recording ≡ l.recording;
  place : l.recent.place ≡ l.counter + 127;
}
