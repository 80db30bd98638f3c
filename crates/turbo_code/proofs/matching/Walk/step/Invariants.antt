use Rattle.std.proofs.Common.{◌≡◌}
use Rattle.turbo_code.specs.Walk.{IsAt}
use Rattle.turbo_code.proofs.matching.Walk.step.Given as goal

abbrev pub invariant-loop-m : goal.invariant-loop-m
invariant-loop-m l = record {
  same : l.self-inside ≡ l.initial.self-inside;
  at : IsAt l.initial.self-inside.k l.initial.self-inside.rv l.initial.self-inside.bit l.m;
}
