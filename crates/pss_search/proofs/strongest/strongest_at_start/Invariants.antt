use Rattle.pss_search.specs.Steps.{IsStrongestSoFar}
use Rattle.pss_search.proofs.strongest.strongest_at_start.Given as goal

abbrev pub invariant-loop-t : goal.invariant-loop-t
invariant-loop-t l = IsStrongestSoFar l.recent.recording l.n2 l.t l.best
