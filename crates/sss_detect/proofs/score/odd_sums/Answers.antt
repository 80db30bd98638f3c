use Rattle.std.proofs.Common.{arith, ◌≡◌, pos, length}
use Rattle.std.proofs.lemmas.List.FromFn.{fill_by_all}
use Rattle.sss_detect.specs.Steps.{odd_sum}
use Rattle.sss_detect.proofs.score.odd_sums.Goals as goal

pub returns : goal.returns
returns c =
    let last : c.loop-i.i ≡ 248 = omega arith in
    fill_by_all (odd_sum c.args.agreements.now c.args.n2) c.loop-i.sums 248 (pos 0) c.loop-i.invariant.whole (λ k l. c.loop-i.invariant.each k (omega arith))
