use Rattle.std.proofs.Common.{[], arith}
use Rattle.std.proofs.lemmas.List.{get_or_default}
use Rattle.code_tests.proofs.certificates.many_values.Goals as goal

pub returns : goal.returns
returns c = λ k d inside. rw (get_or_default _ k d [] inside) (c.loop-k.invariant.1 k (omega (arith, c.loop-k.invariant.0, inside)))
