use Rattle.std.proofs.Common.{arith, ap, subst, ◌≡◌, ◌≤◌, ◌+◌, length}
use Rattle.cs_num.specs.Complex.{square, sample_at}
use Rattle.pss_search.proofs.measure.Sweep.new.Goals as goal

pub invariant_of-result : goal.invariant_of-result
invariant_of-result c =
    let samples = c.as_slice-samples.result.now in (
      record {
        long = omega (arith, c.as_slice-samples.ensures.valid.least, ap length c.as_slice-samples.ensures.value);
        first = omega arith;
        last = omega arith;
        energy = c.energy_sum.ensures.value;
        small = λ k l.
            let e : 128 + k ≡ k + 128 = omega arith in
            subst (λ i. square (sample_at samples i) ≤ 2147483648) e (c.energy_sum.ensures.each k l);
      },
      c.new.ensures.held,
      omega (arith, c.new.ensures.from),
    )
