use Rattle.std.proofs.Common.{◌≡◌, ◌+◌, ◌*◌, ◌%◌}
use Rattle.turbo_code.specs.Walk.{standing}
use Rattle.turbo_code.proofs.matching.item_in.Given as goal

abbrev pub invariant-loop : goal.invariant-loop
invariant-loop l = l.walk ≡ standing l.k l.rv (l.counter % (3 * (l.k + 4)))
