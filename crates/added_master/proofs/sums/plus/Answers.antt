use Rattle.std.proofs.Common.{ℕ, List, [], ℤ, get_or, refl, arith}
use Rattle.std.proofs.lemmas.List.FromFn.{fill_by_all}
use Rattle.finite.specs.Lists.{values_below}
use Rattle.added_master.specs.Sums.{added_row, added_to}
use Rattle.added_master.proofs.sums.plus.Goals as goal

pub loop-k-init : goal.loop-k-init
loop-k-init c = record { whole = refl; each = λ j below. absurd (omega (arith, below)) }

pub returns : goal.returns
unfolding added_to
returns c =
    let row : ℕ → List ℤ = λ k. values_below 3 (added_row (get_or c.args.sums.now k []) (get_or c.args.values.now k []) (get_or c.args.coded.now k [])) in
    fill_by_all row c.loop-k.out 40 [] c.loop-k.invariant.whole (λ k l. c.loop-k.invariant.each k (omega (arith, l, c.loop-k-test.false)))
