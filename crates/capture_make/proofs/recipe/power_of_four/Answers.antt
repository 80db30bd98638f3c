use Rattle.std.proofs.Common.{◌+◌, ◌≤◌, arith}
use Rattle.capture_make.proofs.Samples.{are_small}
use Rattle.capture_make.proofs.recipe.power_of_four.Goals as goal

pub overflow_add-power-2 : goal.overflow_add-power-2
overflow_add-power-2 c =
    let s = are_small c.args.n c.gains_of_four-gains.result c.gains_of_four-gains.ensures in
    omega (arith, c.norm.ensures, c.norm-2.ensures, c.norm-3.ensures, s.first, s.second, s.third)

module _ (c : goal.After-norm-4) where
  pub few : c.norm.result + c.norm-2.result + c.norm-3.result + c.norm-4.result ≤ 75
  few =
      let s = are_small c.args.n c.gains_of_four-gains.result c.gains_of_four-gains.ensures in
      omega (arith, c.norm.ensures, c.norm-2.ensures, c.norm-3.ensures, c.norm-4.ensures, s.first, s.second, s.third, s.fourth)

pub overflow_add-power-3 : goal.overflow_add-power-3
overflow_add-power-3 c = let small = few c in omega (arith, small)

pub overflow_cast-result : goal.overflow_cast-result
overflow_cast-result c = let small = few c in omega (arith, small)

pub returns-clause-small : goal.returns-clause-small
returns-clause-small c = few c
