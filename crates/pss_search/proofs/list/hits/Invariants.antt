use Rattle.std.proofs.Common.{◌≡◌, ◌+◌}
use Rattle.std.specs.List.{All}
use Rattle.pss_search.specs.Hits.{IsSmallHit, hits_before}
use Rattle.pss_search.proofs.list.hits.Given as goal

abbrev pub invariant-loop-i : goal.invariant-loop-i
invariant-loop-i l = record {
  list : l.list ≡ hits_before l.recording l.i;
  small : All IsSmallHit l.list;
  recording : l.recent.recording ≡ l.recording;
  place : l.recent.place ≡ l.i + 146;
}
