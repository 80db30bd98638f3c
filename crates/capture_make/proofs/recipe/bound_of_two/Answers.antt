use Rattle.std.proofs.Common.{◌*◌, arith}
use Rattle.std.proofs.lemmas.Int.{ints}
use Rattle.capture_make.proofs.Roots.{no_greater, within_both}
use Rattle.capture_make.proofs.Samples.{first-square, second-square}
use Rattle.capture_make.proofs.recipe.bound_of_two.Goals as goal

pub returns-clause-bound : goal.returns-clause-bound
returns-clause-bound c =
    let first = first-square c.args.n in
    let second = second-square c.args.n in
    let r = c.isqrt.result in
    let low = c.isqrt.ensures.square_le in
    let high = c.isqrt.ensures.next_square_gt in
    let a = c.least.ensures.first in
    let b = c.least.ensures.second in
    record {
      within = record { both = omega (arith, first, second, low, a); one = omega (arith, first, low, b) };
      greatest = λ m allowed.
          let p = allowed.both in
          let q = allowed.one in
          let small = within_both (m * m) _ _ c.least.result (omega (arith, first, second, p)) (omega (arith, first, q)) c.least.ensures.one in
          let less = no_greater m r c.least.result small high in
          omega (arith, ints, less);
    }
