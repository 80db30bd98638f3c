use Rattle.std.proofs.Common.{◌-◌}
use Rattle.lte_types.specs.declared.frame.Half.TheVariants.{Zero, Five}
use Rattle.accumulated_sss.specs.Steps.{counts_by}
use Rattle.accumulated_sss.proofs.Leaders.{IsLeader}
use Rattle.accumulated_sss.proofs.best.most_matching.Given as goal

abbrev pub invariant-loop-n1 : goal.invariant-loop-n1
invariant-loop-n1 l = record {
  in_0 : IsLeader (λ n1. counts_by l.even l.odd l.fn.n2 n1 Zero) (l.n1 - 1) l.in_0;
  in_5 : IsLeader (λ n1. counts_by l.even l.odd l.fn.n2 n1 Five) (l.n1 - 1) l.in_5;
}
