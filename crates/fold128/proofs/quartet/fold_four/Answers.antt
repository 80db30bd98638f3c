use Rattle.std.proofs.Common.{arith, subst, sym}
use Rattle.fold128.specs.Folding.{AreWithin}
use Rattle.fold128.proofs.FoldSizes.{sums-small, differences-small, by_butterflies, quartet-small}
use Rattle.fold128.proofs.quartet.fold_four.Goals as goal

pub add-zero-requires : goal.add-zero-requires
add-zero-requires c =
    let r = c.requires in
    rw (c.add-sum.ensures, c.add-other_sum.ensures) (sums-small 32768 c.args.a c.args.b c.args.c c.args.d (omega arith) r.a r.b r.c r.d)

pub sub-two-requires : goal.sub-two-requires
sub-two-requires c =
    let r = c.requires in
    rw (c.add-sum.ensures, c.add-other_sum.ensures) (sums-small 32768 c.args.a c.args.b c.args.c c.args.d (omega arith) r.a r.b r.c r.d)

pub add-one-requires : goal.add-one-requires
add-one-requires c =
    let r = c.requires in
    rw (c.sub-difference.ensures, c.times_minus_j-turned.ensures, c.sub-other_difference.ensures)
    (differences-small 32768 c.args.a c.args.b c.args.c c.args.d (omega arith) r.a r.b r.c r.d)

pub sub-three-requires : goal.sub-three-requires
sub-three-requires c =
    let r = c.requires in
    rw (c.sub-difference.ensures, c.times_minus_j-turned.ensures, c.sub-other_difference.ensures)
    (differences-small 32768 c.args.a c.args.b c.args.c c.args.d (omega arith) r.a r.b r.c r.d)

pub returns-clause-value : goal.returns-clause-value
returns-clause-value c = let e = by_butterflies c.args.a c.args.b c.args.c c.args.d in cc

pub returns-clause-small : goal.returns-clause-small
returns-clause-small c =
    let r = c.requires in
    subst (AreWithin 131072) (sym (returns-clause-value c)) (quartet-small c.args.a c.args.b c.args.c c.args.d r.a r.b r.c r.d)
