use Rattle.sss_detect.specs.Steps.{score_by}
use Rattle.sss_detect.proofs.Seconds.{AreBestTwo}
use Rattle.sss_detect.proofs.rank.best_two_by.Given as goal

abbrev pub invariant-loop-place : goal.invariant-loop-place
invariant-loop-place l = AreBestTwo (score_by l.sums.agreements.now l.sums.n2) l.place l.ranking
