use Rattle.cs_num.proofs.SoFar.{SoFar}
use Rattle.fold128.specs.Folding.{mirrored_term}
use Rattle.fold128.proofs.spectrum.mirrored_sum.Given as goal

abbrev pub invariant-loop-m : goal.invariant-loop-m
invariant-loop-m l = SoFar 8589934592 l.m (mirrored_term l.row l.frequency) l.sum
