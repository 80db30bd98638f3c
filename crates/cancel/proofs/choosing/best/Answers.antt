use Rattle.std.proofs.Common.{◌≡◌, arith, subst}
use Rattle.cancel.specs.Steps.{greatest_of, IsFoundBefore}
use Rattle.cancel.proofs.Found.{none_before, best_is_found}
use Rattle.cancel.proofs.choosing.best.Goals as goal

pub loop-i-init : goal.loop-i-init
loop-i-init c = none_before (greatest_of c.args.samples.now c.args.sent.now) c.args.middle c.limit_of-limit.result

pub returns : goal.returns
returns c =
    let greatest = greatest_of c.args.samples.now c.args.sent.now in
    let all : c.loop-i.i ≡ 25 = omega (arith, c.loop-i-test.false, c.loop-i.auto.i-end) in
    best_is_found greatest c.args.middle c.limit_of-limit.result c.loop-i.found c.limit_of-limit.ensures
    (subst (λ n. IsFoundBefore greatest c.args.middle c.limit_of-limit.result n c.loop-i.found) all c.loop-i.invariant)
