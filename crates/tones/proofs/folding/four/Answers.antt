use Rattle.std.proofs.Common.{arith, ◌≡◌, ◌∙◌, subst, sym, ap, ap₂}
use Rattle.cs_num.specs.Complex.{IsWithin, minus, times_minus_j}
use Rattle.fold128.specs.Folding.{taken, seen_of_four}
use Rattle.fold128.proofs.FoldSizes.{sums-small, differences-small, by_butterflies}
use Rattle.tones.proofs.Sizes.{folded-small}
use Rattle.tones.proofs.folding.four.Goals as goal

pub add-requires : goal.add-requires
add-requires c =
    rw (c.add-sum.ensures, c.add-other.ensures) (sums-small 32768 c.args.a c.args.b c.args.c c.args.d (omega arith) c.requires.a c.requires.b c.requires.c c.requires.d)

pub add-requires-in-1 : goal.add-requires-in-1
add-requires-in-1 c =
    rw (c.sub-difference.ensures, c.times_minus_j-turned.ensures, c.sub-across.ensures)
    (differences-small 32768 c.args.a c.args.b c.args.c c.args.d (omega arith) c.requires.a c.requires.b c.requires.c c.requires.d)

pub sub-requires : goal.sub-requires
sub-requires c =
    rw (c.add-sum.ensures, c.add-other.ensures) (sums-small 32768 c.args.a c.args.b c.args.c c.args.d (omega arith) c.requires.a c.requires.b c.requires.c c.requires.d)

pub sub-requires-in_default : goal.sub-requires-in_default
sub-requires-in_default c =
    rw (c.sub-difference.ensures, c.times_minus_j-turned.ensures, c.sub-across.ensures)
    (differences-small 32768 c.args.a c.args.b c.args.c c.args.d (omega arith) c.requires.a c.requires.b c.requires.c c.requires.d)

pub returns-in-0-clause-value : goal.returns-in-0-clause-value
returns-in-0-clause-value c = let e = ap (λ q. taken q 0) (by_butterflies c.args.a c.args.b c.args.c c.args.d) in cc

pub returns-in-0-clause-small : goal.returns-in-0-clause-small
returns-in-0-clause-small c =
    subst (IsWithin 131072) (sym (returns-in-0-clause-value c)) (folded-small c.args.residue c.args.a c.args.b c.args.c c.args.d c.requires.residue c.requires.a c.requires.b c.requires.c c.requires.d)

pub returns-in-1-clause-value : goal.returns-in-1-clause-value
returns-in-1-clause-value c = let e = ap (λ q. taken q 1) (by_butterflies c.args.a c.args.b c.args.c c.args.d) in cc

pub returns-in-1-clause-small : goal.returns-in-1-clause-small
returns-in-1-clause-small c =
    subst (IsWithin 131072) (sym (returns-in-1-clause-value c)) (folded-small c.args.residue c.args.a c.args.b c.args.c c.args.d c.requires.residue c.requires.a c.requires.b c.requires.c c.requires.d)

pub returns-in-2-clause-value : goal.returns-in-2-clause-value
returns-in-2-clause-value c = let e = ap (λ q. taken q 2) (by_butterflies c.args.a c.args.b c.args.c c.args.d) in cc

pub returns-in-2-clause-small : goal.returns-in-2-clause-small
returns-in-2-clause-small c =
    subst (IsWithin 131072) (sym (returns-in-2-clause-value c)) (folded-small c.args.residue c.args.a c.args.b c.args.c c.args.d c.requires.residue c.requires.a c.requires.b c.requires.c c.requires.d)

pub returns-in_default-clause-value : goal.returns-in_default-clause-value
returns-in_default-clause-value c =
    let last : 3 ≡ c.args.residue = omega arith in
    c.sub-in_default.ensures ∙ ap₂ minus c.sub-difference.ensures (c.times_minus_j-turned.ensures ∙ ap times_minus_j c.sub-across.ensures)
    ∙ ap (λ q. taken q 3) (by_butterflies c.args.a c.args.b c.args.c c.args.d) ∙ ap (λ r. seen_of_four r c.args.a c.args.b c.args.c c.args.d) last

pub returns-in_default-clause-small : goal.returns-in_default-clause-small
returns-in_default-clause-small c =
    subst (IsWithin 131072) (sym (returns-in_default-clause-value c)) (folded-small c.args.residue c.args.a c.args.b c.args.c c.args.d c.requires.residue c.requires.a c.requires.b c.requires.c c.requires.d)
