use Rattle.std.specs.Prelude.{◌<◌, All}
use Rattle.list_tests.proofs.ports.places.Given as goal

abbrev pub invariant-loop-i : goal.invariant-loop-i
invariant-loop-i l = All (λ p. (p.symbol < 14) × (p.k < 72)) l.places
