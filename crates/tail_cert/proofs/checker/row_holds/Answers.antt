use Rattle.std.proofs.Common.{◌≡◌, ◌+◌, ◌*◌, refl, arith, below_more}
use Rattle.tail_cert.proofs.checker.row_holds.Goals as goal

pub returns-then-not-pair_holds : goal.returns-then-not-pair_holds
returns-then-not-pair_holds c = (
  (λ h. cc),
  λ rows. c.if-not-pair_holds.ensures.1 (rows (2 * c.loop-h.h) (omega (arith, c.loop-h-test.true)), rows (2 * c.loop-h.h + 1) (omega (arith, c.loop-h-test.true))),
)

pub loop-h-preserved : goal.loop-h-preserved
loop-h-preserved c =
    let pair = c.if-not-pair_holds.ensures.0 refl in
    let e : 2 * (c.loop-h.h + 1) ≡ 2 * c.loop-h.h + 1 + 1 = omega arith in
    rw e (below_more _ _ (below_more _ _ c.loop-h.invariant pair.0) pair.1)
