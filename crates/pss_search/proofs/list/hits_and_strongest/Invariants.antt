use Rattle.std.proofs.Common.{◌≡◌, ◌+◌}
use Rattle.std.specs.List.{All}
use Rattle.pss_search.specs.Hits.{IsSmallHit, hits_before}
use Rattle.pss_search.specs.Steps.{IsStrongestSoFar}
use Rattle.pss_search.proofs.list.hits_and_strongest.Given as goal

abbrev pub invariant-loop-offset : goal.invariant-loop-offset
invariant-loop-offset l = record {
  list : l.list ≡ hits_before l.recording l.offset;
  small : All IsSmallHit l.list;
  recording : l.recent.recording ≡ l.recording;
  place : l.recent.place ≡ l.offset + 146;
  best : IsStrongestSoFar l.recording l.n2 (l.offset + 146) l.best;
}
