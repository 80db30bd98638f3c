use Rattle.std.proofs.Common.{arith, ◌≡◌, pos, length}
use Rattle.std.proofs.lemmas.List.FromFn.{fill_by_all}
use Rattle.sss_detect.specs.Steps.{even_sum}
use Rattle.sss_detect.proofs.score.even_sums.Goals as goal

pub returns : goal.returns
returns c =
    let last : c.loop-shift.shift ≡ 31 = omega arith in
    fill_by_all (even_sum c.args.agreements.now c.args.n2) c.loop-shift.sums 31 (pos 0) c.loop-shift.invariant.whole (λ k l. c.loop-shift.invariant.each k (omega arith))
