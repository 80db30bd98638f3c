use Rattle.std.proofs.Common.{arith}
use Rattle.std.proofs.lemmas.Int.{ints}
use Rattle.capture_make.proofs.Roots.{no_greater}
use Rattle.capture_make.proofs.Samples.{four_paired}
use Rattle.capture_make.proofs.recipe.bound_of_four.Goals as goal

pub returns-clause-bound : goal.returns-clause-bound
returns-clause-bound c =
    let power = c.power_of_four.ensures.value in
    let r = c.isqrt.result in
    let low = c.isqrt.ensures.square_le in
    let high = c.isqrt.ensures.next_square_gt in
    record {
      within = record { pairs = four_paired c.args.n; quiet = omega (arith, power, low) };
      greatest = λ m allowed.
          let p = allowed.quiet in
          let less = no_greater m r _ (omega (arith, power, p)) high in
          omega (arith, ints, less);
    }
