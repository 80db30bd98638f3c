use Rattle.std.proofs.Common.{◌≡◌, ◌∙◌, arith, ap, sym, ap₂, ◌+◌, List, length}
use Rattle.cs_num.specs.declared.Sample.{Sample}
use Rattle.cs_num.specs.Complex.{square, sample_at}
use Rattle.finite.proofs.Sums.{total_below_none, total_below_more}
use Rattle.norms.specs.Magnitudes.{energy_below}
use Rattle.cancel.specs.Residue.{power_of}
use Rattle.cancel.proofs.taking.power_of.Goals as goal

pub loop-i-init : goal.loop-i-init
loop-i-init c = record { value = sym (total_below_none (λ k. square (sample_at c.as_slice-samples.result.now k))); small = omega arith }

pub loop-i-preserved : goal.loop-i-preserved
loop-i-preserved c =
    let more = total_below_more c.loop-i.i (λ k. square (sample_at c.as_slice-samples.result.now k)) in
    let low = c.loop-i.invariant.small in
    let here = c.square_of-sum.ensures.small in
    record {
      value = ap₂ (λ a b. a + b) c.loop-i.invariant.value c.square_of-sum.ensures.value ∙ sym more;
      small = omega (arith, low, here);
    }

pub returns : goal.returns
returns c =
    let last : c.loop-i.i ≡ length c.as_slice-samples.result.now = omega arith in
    c.loop-i.invariant.value ∙ ap (λ n. energy_below n (sample_at c.as_slice-samples.result.now)) last ∙ ap (λ (s : List Sample). power_of s) c.as_slice-samples.ensures.value
