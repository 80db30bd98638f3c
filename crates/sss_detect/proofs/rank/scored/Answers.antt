use Rattle.std.proofs.Common.{arith, refl, ap, FitsSigned, w64}
use Rattle.std.specs.Int.{w128}
use Rattle.std.specs.Prelude.{nat_abs}
use Rattle.std.proofs.lemmas.Int.{to_z-of_z, fits_signed_from_abs}
use Rattle.sss_detect.proofs.Small.{score-small}
use Rattle.sss_detect.proofs.rank.scored.Goals as goal

pub overflow_cast-result : goal.overflow_cast-result
overflow_cast-result c =
    let sums = c.args.sums.now in
    let small = score-small sums.agreements.now sums.n2 c.args.n1 c.args.half sums.long c.requires.small in
    let size = ap nat_abs c.score_of.ensures in
    let wide : FitsSigned w128 c.score_of.result = fits_signed_from_abs w128 _ (omega (arith, small, size)) in
    simp to_z-of_z (fits_signed_from_abs w64 c.score_of.result (omega (arith, small, size)))

pub returns : goal.returns
returns c =
    let sums = c.args.sums.now in
    let small = score-small sums.agreements.now sums.n2 c.args.n1 c.args.half sums.long c.requires.small in
    let size = ap nat_abs c.score_of.ensures in
    let wide : FitsSigned w128 c.score_of.result = fits_signed_from_abs w128 _ (omega (arith, small, size)) in
    let narrow : FitsSigned w64 c.score_of.result = fits_signed_from_abs w64 _ (omega (arith, small, size)) in
    simp to_z-of_z (rw c.score_of.ensures refl)
