use Rattle.std.proofs.Common.{below_more, refl, arith}
use Rattle.tail_cert.proofs.Breaks.{before_end, of_spoiled}
use Rattle.tail_cert.proofs.reading.first_break.Goals as goal

pub returns-then-spoils-clause-some : goal.returns-then-spoils-clause-some
returns-then-spoils-clause-some c = record { here = of_spoiled _ _ _ (c.if-spoils.ensures.0 refl); before = c.loop-p.invariant }

pub loop-p-preserved : goal.loop-p-preserved
loop-p-preserved c = below_more _ _ c.loop-p.invariant (λ b.
    let t = c.if-spoils.ensures.1 (before_end _ _ _ (omega (arith, c.loop-p-test.true, c.min-p-end.ensures)) b) in cc)
