use Rattle.std.proofs.Common.{◌≡◌, ◌∙◌, arith, ap, sym, subst}
use Rattle.accumulated_pss.specs.Sums.{rows_of}
use Rattle.accumulated_pss.specs.Steps.{AreRows}
use Rattle.accumulated_pss.proofs.Rows.{rows_none, rows_end}
use Rattle.accumulated_pss.proofs.sums.accumulate.Goals as goal

pub loop-half-init : goal.loop-half-init
loop-half-init c =
    let samples = c.as_slice-samples.result.now in
    subst (AreRows samples 0 0) (sym c.in_ok-sums.ensures) (rows_none samples)

pub add_half_frame-requires-clause-half : goal.add_half_frame-requires-clause-half
add_half_frame-requires-clause-half c = omega (arith, c.requires, c.as_slice-samples.ensures.valid.most, c.loop-half-test.true)

pub returns : goal.returns
returns c =
    let last : c.loop-half.half ≡ c.args.halves = omega arith in
    let samples = c.as_slice-samples.result.now in
    rows_end samples c.args.halves c.loop-half.sums (subst (λ n. AreRows samples n 0 c.loop-half.sums) last c.loop-half.invariant)
    ∙ ap (λ r. rows_of r c.args.halves) c.as_slice-samples.ensures.value
