use Rattle.std.proofs.Common.{◌≡◌, ◌^◌, ◌<◌, length}
use Rattle.halving.specs.Halved.{halved_by}
use Rattle.halving.proofs.wide.halved_often.Given as goal

abbrev pub invariant-loop : goal.invariant-loop
invariant-loop l = record {
  narrow : l.narrow.items ≡ halved_by l.counter l.samples;
  small : length l.narrow.items < 2 ^ 40;
}
