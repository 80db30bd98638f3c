use Rattle.std.proofs.Common.{◌≡◌, ℕ, ◌+◌, ◌≤◌, ◌<◌, arith, ap, sym, subst, ℤ, pos, ◌-ℤ◌}
use Rattle.std.proofs.lemmas.Int.{ints}
use Rattle.std.specs.Prelude.{nat_abs}
use Rattle.finite.proofs.Lists.{values_below_at, values_below-length}
use Rattle.cs_num.specs.declared.Sample.{Sample}
use Rattle.cs_num.specs.Complex.{IsWithin, silence, value_of, times, minus, sample_of}
use Rattle.cell_tx.specs.Sent.{received}
use Rattle.cell_tx.proofs.Bounds.{with-error-fits}
use Rattle.cell_tx.proofs.Received.{near_with}
use Rattle.cell_tx.proofs.laws.sent_is_clean.Goals as goal

nothing_left : (a : ℤ) → nat_abs (a -ℤ a) ≤ 0
nothing_left a = let is : a -ℤ a ≡ pos 0 = omega (arith, ints) in subst (λ z. nat_abs z ≤ 0) (sym is) (omega arith)

pub returns-clause-errors : goal.returns-clause-errors
returns-clause-errors c sequence offset count gain eps errors within range bound small = record {
  within = within;
  range = range;
  bound = bound;
  near = near_with (λ i. times gain (sequence (i + offset))) errors count eps small;
}

pub returns-clause-fits : goal.returns-clause-fits
returns-clause-fits c = with-error-fits

pub returns-clause-exact : goal.returns-clause-exact
returns-clause-exact c plan sfn offset count gain a b d = record {
  number = a;
  samples = record {
    within = b;
    range = d;
    bound = omega arith;
    near = λ i below.
        let f : ℕ → Sample = λ i. sample_of (received plan sfn offset gain i) in
        let there : i < count = subst (λ n. i < n) (values_below-length count f) below in
        subst (λ z. IsWithin 0 (minus z (received plan sfn offset gain i))) (sym (ap value_of (values_below_at f count i silence there)))
        (record { re = nothing_left (received plan sfn offset gain i).re; im = nothing_left (received plan sfn offset gain i).im });
  };
}
