use Rattle.std.proofs.Common.{[], ◌∙◌, sym, arith}
use Rattle.std.proofs.lemmas.List.{ext_get_or}
use Rattle.tail_cert.proofs.filling.copy_of.Goals as goal

pub returns-clause-same : goal.returns-clause-same
returns-clause-same c = ext_get_or [] _ _ (c.loop-k.invariant.0 ∙ sym c.told-values)
    (λ j inside. c.loop-k.invariant.1 j (omega (arith, inside, c.loop-k.invariant.0)))
