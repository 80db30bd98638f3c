use Rattle.std.proofs.Common.{arith, subst, sym}
use Rattle.finite.proofs.Integers.{abs-difference}
use Rattle.fold128.specs.Folding.{AreWithin}
use Rattle.fold128.proofs.FoldSizes.{sums-small, forward_differences-small, by_forward_butterflies, unfolded-within}
use Rattle.fold128.proofs.quartet.unfold_four.Goals as goal

pub times_j-turned-requires : goal.times_j-turned-requires
times_j-turned-requires c =
    let r = c.requires in
    rw c.sub-other_difference.ensures (omega (arith, r.one.im, r.three.im, abs-difference c.args.parts.one.im c.args.parts.three.im))

pub add-zero-requires : goal.add-zero-requires
add-zero-requires c =
    let p = c.args.parts in
    let r = c.requires in
    rw (c.add-sum.ensures, c.add-other_sum.ensures) (sums-small 1073741824 p.zero p.one p.two p.three (omega arith) r.zero r.one r.two r.three)

pub sub-two-requires : goal.sub-two-requires
sub-two-requires c =
    let p = c.args.parts in
    let r = c.requires in
    rw (c.add-sum.ensures, c.add-other_sum.ensures) (sums-small 1073741824 p.zero p.one p.two p.three (omega arith) r.zero r.one r.two r.three)

pub add-one-requires : goal.add-one-requires
add-one-requires c =
    let p = c.args.parts in
    let r = c.requires in
    rw (c.sub-difference.ensures, c.times_j-turned.ensures, c.sub-other_difference.ensures)
    (forward_differences-small 1073741824 p.zero p.one p.two p.three (omega arith) r.zero r.one r.two r.three)

pub sub-three-requires : goal.sub-three-requires
sub-three-requires c =
    let p = c.args.parts in
    let r = c.requires in
    rw (c.sub-difference.ensures, c.times_j-turned.ensures, c.sub-other_difference.ensures)
    (forward_differences-small 1073741824 p.zero p.one p.two p.three (omega arith) r.zero r.one r.two r.three)

pub returns-clause-value : goal.returns-clause-value
returns-clause-value c = let p = c.args.parts in let e = by_forward_butterflies p.zero p.one p.two p.three in cc

pub returns-clause-small : goal.returns-clause-small
returns-clause-small c = subst (AreWithin 4294967296) (sym (returns-clause-value c)) (unfolded-within 1073741824 c.args.parts c.requires)
