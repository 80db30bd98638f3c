use Rattle.std.proofs.Common.{refl, pos, arith, replicate, nat_abs, ◌≤◌}
use Rattle.std.proofs.lemmas.List.Elements.{All-replicate}
use Rattle.finite.specs.Sizes.{AllWithin}
use Rattle.wide_block.specs.Sums.{zero_sums}
use Rattle.wide_block.proofs.total.Total.new.Goals as goal

pub invariant_of-result : goal.invariant_of-result
invariant_of-result c =
    (omega arith, All-replicate (AllWithin 0) 3 (replicate 1028 (pos 0)) (All-replicate (λ sum. nat_abs sum ≤ 0) 1028 (pos 0) (omega arith)))

pub returns-clause-sums : goal.returns-clause-sums
unfolding zero_sums
returns-clause-sums c = refl
