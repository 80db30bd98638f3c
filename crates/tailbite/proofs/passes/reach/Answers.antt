use Rattle.std.proofs.Common.{◌≡◌, ◌^◌, ◌*◌, ◌+◌, suc, arith, refl, length, get_or, ◌∙◌}
use Rattle.trellis.proofs.Rows.{row_first}
use Rattle.tailbite.specs.Machine.{shift, step_cost}
use Rattle.tailbite.proofs.Edges.{forward_row_is}
use Rattle.tailbite.proofs.Pairs.{shared_least-is}
use Rattle.tailbite.proofs.passes.reach.Goals as goal

pub loop-i-init : goal.loop-i-init
loop-i-init c =
    row_first shift (step_cost c.args.values.now) (λ x. get_or c.args.starts.now x 0) 64 (2 ^ 30) (3 * 2 ^ 20) c.args.starts.now
    (λ x below. refl) (λ x below. c.requires.starts x below)

pub loop-i-preserved : goal.loop-i-preserved
loop-i-preserved c =
    let one : c.loop-i.i + 1 ≡ suc c.loop-i.i = omega arith in
    let are = c.requires.costs.place c.loop-i.i c.loop-i-test.true in
    rw one
    (forward_row_is c.args.values.now (λ x. get_or c.args.starts.now x 0) (2 ^ 30) (3 * 2 ^ 20) c.loop-i.i c.loop-i.row c.step_on-row.result c.loop-i.invariant
    (λ x below. c.step_on-row.ensures.least x below ∙ shared_least-is _ _ c.loop-i.row x are below) c.step_on-row.ensures.growth)

pub returns : goal.returns
returns c x below =
    let all : c.loop-i.i ≡ length c.args.values.now = omega arith in
    rw all at (c.loop-i.invariant.least x below)
