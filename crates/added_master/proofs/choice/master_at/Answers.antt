use Rattle.std.proofs.Common.{ℕ, List, ℤ, arith, sym}
use Rattle.added_master.specs.Sums.{added_sums}
use Rattle.added_master.proofs.Choices.{none_below, more_below, all_below}
use Rattle.added_master.proofs.choice.master_at.Goals as goal

pub loop-upper-init : goal.loop-upper-init
loop-upper-init c = none_below c.args.ports c.args.phase (added_sums c.args.sums.now)

pub loop-upper-preserved : goal.loop-upper-preserved
loop-upper-preserved c =
    let u = c.loop-upper.upper in
    let sums : ℕ → List (List ℤ) = added_sums c.args.sums.now in
    rw c.better-best.ensures
    (more_below c.args.ports c.args.phase sums u c.loop-upper.best c.decode_added.result c.loop-upper.invariant (rw (sym c.added_sums-added.ensures.sums) c.decode_added.ensures))

pub returns : goal.returns
returns c = all_below c.args.ports c.args.phase (added_sums c.args.sums.now) c.loop-upper.upper c.loop-upper.best (omega (arith, c.loop-upper-test.false)) c.loop-upper.invariant
