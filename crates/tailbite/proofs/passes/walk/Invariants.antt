use Rattle.tailbite.proofs.Walking.{IsWalkAt}
use Rattle.tailbite.specs.Passes.{decoded_bit}
use Rattle.tailbite.proofs.passes.walk.Given as goal

abbrev pub invariant-loop-k : goal.invariant-loop-k
invariant-loop-k l = IsWalkAt (decoded_bit l.tables l.rows) l.count l.start l.k l.word l.state
