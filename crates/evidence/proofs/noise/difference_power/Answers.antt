use Rattle.std.proofs.Common.{◌≤◌, ◌^◌, ◌*◌, ap, ap₂, sym, subst, ◌∙◌, arith}
use Rattle.cs_num.specs.declared.Cpx.{Cpx}
use Rattle.cs_num.specs.Complex.{IsWithin, minus, square}
use Rattle.cs_num.proofs.Complex.{largest_part-le, multiple-within}
use Rattle.evidence.proofs.SecondDifferences.{outer_small, difference_small}
use Rattle.evidence.proofs.noise.difference_power.Goals as goal

pub sub-requires : goal.sub-requires
sub-requires c =
    let inside = c.requires.i in
    let outer = largest_part-le _ (360 * 2 ^ 25) (subst (λ (z : Cpx). IsWithin (360 * 2 ^ 25) z) (sym c.add.ensures)
    (outer_small _ _ (c.requires.small _ _ (omega (arith, inside))) (c.requires.small _ _ (omega (arith, inside))))) in
    let middle = largest_part-le _ (360 * 2 ^ 25) (subst (λ (z : Cpx). IsWithin (360 * 2 ^ 25) z) (sym c.scaled-middle.ensures)
    (multiple-within 2 _ (180 * 2 ^ 25) (c.requires.small _ _ (omega (arith, inside))))) in
    omega (arith, outer, middle)

pub returns-clause-bound : goal.returns-clause-bound
returns-clause-bound c =
    let inside = c.requires.i in
    subst (λ n. n ≤ 2 ^ 70) (sym (c.norm.ensures ∙ ap square (c.sub.ensures ∙ ap₂ minus c.add.ensures c.scaled-middle.ensures)))
    (difference_small _ _ _ (c.requires.small _ _ (omega (arith, inside))) (c.requires.small _ _ (omega (arith, inside))) (c.requires.small _ _ (omega (arith, inside))))
