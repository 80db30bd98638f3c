use Rattle.std.proofs.Common.{◌≡◌, ◌+◌, ◌*◌, ◌%◌, ap, sym, refl, ◌∙◌, arith}
use Rattle.std.proofs.Math.Nat.{zero-mod}
use Rattle.turbo_code.specs.Reading.{item_of}
use Rattle.turbo_code.specs.Walk.{standing}
use Rattle.turbo_code.proofs.Walking.{item_here, one_more}
use Rattle.turbo_code.proofs.matching.item_in.Goals as goal

pub loop-init : goal.loop-init
loop-init c = c.new-walk.ensures ∙ ap (standing c.args.k c.args.rv) (sym (zero-mod (3 * (c.args.k + 4))))

pub loop-preserved : goal.loop-preserved
loop-preserved c = c.step.ensures.next ∙ one_more c.args.k c.args.rv c.loop.counter c.loop.walk c.loop.invariant

pub returns-clause-item : goal.returns-clause-item
returns-clause-item c =
    let k = c.args.k in
    let rv = c.args.rv in
    let size = c.requires.size in
    let all : c.loop.counter ≡ c.args.i % (3 * (k + 4)) = omega arith in
    c.step-2.ensures.item ∙ item_here k rv c.loop.counter c.loop.walk size c.loop.invariant ∙ ap (item_of k rv) all
    ∙ item_here k rv c.args.i (standing k rv (c.args.i % (3 * (k + 4)))) size refl
