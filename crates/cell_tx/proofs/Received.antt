-- Bounds on the received sum over antenna ports, and that it is clean.
use Rattle.std.proofs.Common.{◌≡◌, ℕ, ◌+◌, ◌*◌, ◌<◌, ◌≤◌, inl, inr, arith, ap, sym, ◌∙◌, subst, mul_assoc, mul_comm, ℤ, ◌+ℤ◌, ◌-ℤ◌}
use Rattle.std.specs.Prelude.{nat_abs}
use Rattle.std.proofs.lemmas.Bool.{cases_lt}
use Rattle.std.proofs.lemmas.Int.{ints}
use Rattle.std.proofs.lemmas.Nat.{mul-le}
use Rattle.finite.proofs.Lists.{values_below_at, values_below-length}
use Rattle.cs_num.specs.declared.Cpx.{Cpx}
use Rattle.cs_num.specs.declared.Sample.{Sample}
use Rattle.cs_num.specs.Complex.{IsWithin, plus, minus, times, square, silence, value_at, value_of, sample_of}
use Rattle.norms.proofs.Squares.{re-le, im-le, square-times}
use Rattle.norms.proofs.TwoTerms.{two_term_cauchy}
use Rattle.cell_tx.specs.Clean.{AreNear, received_of_two}
use Rattle.lte_types.specs.declared.carrier.Carrier.TheVariants.{OnePort, TwoPorts, LongPrefix, FourPorts}
use Rattle.cell_grid.specs.Ports.{only_port, first_port, second_port, long_port, port_of_four}
use Rattle.cell_tx.specs.Emission.{sent_by, received_by}
use Rattle.cell_tx.proofs.Bounds.{amplified, added, sent_by-square}
use Rattle.cell_tx.specs.Laws.{values_with, EmittedIsClean, EmittedIsSmall, ReceivedOfTwoIsClean, ReceivedOfTwoIsSmall, ReceivedOfTwoFits}

times-most : (g z : Cpx) → square z ≤ 1153 * 1153 → square (times g z) ≤ square g * (1153 * 1153)
times-most g z small = let law = square-times g z in let l = mul-le (square g) (square z) (square g) (1153 * 1153) (omega arith) small in omega (arith, law, l)

sum-most : (n m : ℕ) → m ≤ 392 → n ≤ m * (1153 * 1153 + 1153 * 1153) → n ≤ 32284 * 32284
sum-most n m most l = omega (arith, most, l)

received-square : (first second gain other : Cpx) → square first ≤ 1153 * 1153 → square second ≤ 1153 * 1153 → square gain + square other ≤ 392 →
    square (plus (times gain first) (times other second)) ≤ 32284 * 32284
received-square first second gain other a b most =
    sum-most _ (square gain + square other) most
    (two_term_cauchy (times gain first) (times other second) (square gain) (1153 * 1153) (square other) (1153 * 1153) (times-most gain first a) (times-most other second b))

pub both-small : (first second gain other : Cpx) → square first ≤ 1153 * 1153 → square second ≤ 1153 * 1153 → square gain + square other ≤ 392 →
    IsWithin 32284 (plus (times gain first) (times other second))
both-small first second gain other a b most =
    let z : Cpx = plus (times gain first) (times other second) in
    let whole = received-square first second gain other a b most in
    record { re = re-le z 32284 whole; im = im-le z 32284 whole }

pub received-small : ReceivedOfTwoIsSmall
received-small first second gain other a b g = both-small first second gain other a b g.most

-- ---- errors

error-bound : (eps n : ℕ) → 4 * (eps * eps) ≤ n → n ≤ 392 → eps ≤ 9
error-bound eps n e m = elim (cases_lt 9 eps) [
  | inl more ↦ absurd (let k : 10 * 10 ≤ eps * eps = mul-le 10 10 eps eps (omega (arith, more)) (omega (arith, more)) in omega (arith, e, m, k))
  | inr fits ↦ omega (arith, fits)
]

pub received-fits : ReceivedOfTwoFits
received-fits first second gain other error eps a b g bound e =
    let most = error-bound eps (square gain + square other) bound.both g.most in
    let whole = received-small first second gain other a b g in
    let z : Cpx = plus (times gain first) (times other second) in
    record {
      re = omega (arith, most, added z.re error.re 32284 eps whole.re e.re);
      im = omega (arith, most, added z.im error.im 32284 eps whole.im e.im);
    }

-- the difference is the error
pub error_left : (a e : ℤ) (n : ℕ) → nat_abs e ≤ n → nat_abs (a +ℤ e -ℤ a) ≤ n
error_left a e n h = let is : a +ℤ e -ℤ a ≡ e = omega (arith, ints) in subst (λ z. nat_abs z ≤ n) (sym is) h

pub near_with : (values errors : ℕ → Cpx) (count eps : ℕ) → ((i : ℕ) → i < count → IsWithin eps (errors i)) → AreNear (values_with count values errors) values eps
near_with values errors count eps small i below =
    let f : ℕ → Sample = λ i. sample_of (plus (values i) (errors i)) in
    let there : i < count = subst (λ n. i < n) (values_below-length count f) below in
    let e = small i there in
    subst (λ z. IsWithin eps (minus z (values i))) (sym (ap value_of (values_below_at f count i silence there)))
    (record { re = error_left (values i).re (errors i).re eps e.re; im = error_left (values i).im (errors i).im eps e.im })

pub received_clean : ReceivedOfTwoIsClean
received_clean first second offset count gain other eps errors within gains bound small = record {
  within = within;
  gains = gains;
  bound = bound;
  near = near_with (received_of_two first second offset gain other) errors count eps small;
}

-- ---- four ports

-- a sum over n products, each a gain times a sample, where the gains have this total power
pub record IsSumOf (n power : ℕ) (z : Cpx) : Type 0 where
  pub most : square z ≤ power * (n * (1153 * 1153))

pub product_is : (gain z : Cpx) → square z ≤ 1153 * 1153 → IsSumOf 1 (square gain) (times gain z)
product_is gain z small = record { most = omega (arith, times-most gain z small) }

pub sum_is : (a b : Cpx) (m n power other : ℕ) → IsSumOf m power a → IsSumOf n other b → IsSumOf (m + n) (power + other) (plus a b)
sum_is a b m n power other p q =
    let law = two_term_cauchy a b power (m * (1153 * 1153)) other (n * (1153 * 1153)) p.most q.most in
    let e : m * (1153 * 1153) + n * (1153 * 1153) ≡ (m + n) * (1153 * 1153) = omega arith in
    record { most = subst (λ (room : ℕ). square (plus a b) ≤ (power + other) * room) e law }

-- the sum fits 16 bits if n times the power is at most 784
pub sum_fits : (z : Cpx) (n power : ℕ) → n * power ≤ 784 → IsSumOf n power z → IsWithin 32284 z
sum_fits z n power most is =
    let e : power * (n * (1153 * 1153)) ≡ n * power * (1153 * 1153) = regroup n power (1153 * 1153) in
    let whole : square z ≤ 32284 * 32284 = omega (arith, is.most, e, most) in
    record { re = re-le z 32284 whole; im = im-le z 32284 whole }
  where
    regroup : (n m k : ℕ) → m * (n * k) ≡ n * m * k
    regroup n m k = sym (mul_assoc m n k) ∙ ap (λ (x : ℕ). x * k) (mul_comm m n)

-- ---- transmission schemes

pub received_by-small : EmittedIsSmall
received_by-small OnePort load plan sfn offset gains i g =
    (amplified (value_at gains 0) (sent_by load only_port plan sfn (i + offset)) g.most (sent_by-square load only_port plan sfn (i + offset))).small
received_by-small TwoPorts load plan sfn offset gains i g =
    received-small (sent_by load first_port plan sfn (i + offset)) (sent_by load second_port plan sfn (i + offset)) (value_at gains 0) (value_at gains 1)
    (sent_by-square load first_port plan sfn (i + offset)) (sent_by-square load second_port plan sfn (i + offset)) g
received_by-small LongPrefix load plan sfn offset gains i g =
    (amplified (value_at gains 0) (sent_by load long_port plan sfn (i + offset)) g.most (sent_by-square load long_port plan sfn (i + offset))).small
received_by-small FourPorts load plan sfn offset gains i g =
    let part : (number : ℕ) (gain : Cpx) → IsSumOf 1 (square gain) (times gain (sent_by load (port_of_four number) plan sfn (i + offset))) =
    λ number gain. product_is gain _ (sent_by-square load (port_of_four number) plan sfn (i + offset)) in
    let first = sum_is _ _ 1 1 _ _ (part 0 (value_at gains 0)) (part 1 (value_at gains 1)) in
    let second = sum_is _ _ 1 1 _ _ (part 2 (value_at gains 2)) (part 3 (value_at gains 3)) in
    sum_fits _ 4 _ (let m = g.most in omega (arith, m)) (sum_is _ _ 2 2 _ _ first second)

pub emitted_clean : EmittedIsClean
emitted_clean carrier load plan sfn offset count gains eps errors number within are bound small = record {
  number = number;
  within = within;
  gains_are = are;
  bound = bound;
  near = near_with (received_by carrier load plan sfn offset gains) errors count eps small;
}
