-- Magnitudes of resource elements and samples.
use Rattle.std.proofs.Common.{◌≡◌, ℕ, ◌+◌, ◌*◌, ◌/◌, ◌%◌, ◌<◌, ◌≤◌, ◌^◌, inl, inr, nat_lt, Option, arith, refl, ap, ℤ, ◌+ℤ◌}
use Rattle.std.specs.Prelude.{nat_abs}
use Rattle.std.proofs.lemmas.Bool.{cases_lt}
use Rattle.std.proofs.lemmas.Int.{ints}
use Rattle.std.proofs.lemmas.Nat.{mul-le}
use Rattle.cs_num.specs.declared.Cpx.{Cpx}
use Rattle.cs_num.specs.Complex.{IsWithin, plus, times, square, largest_part, minus, multiple}
use Rattle.cs_num.specs.Rounding.{rounded}
use Rattle.cs_num.specs.Sums.{complex_sum_below}
use Rattle.norms.specs.Magnitudes.{IsBounded}
use Rattle.norms.proofs.Algebra.{plus-minus}
use Rattle.cs_num.proofs.Complex.{square-within}
use Rattle.cs_num.specs.Gain.{IsGain}
use Rattle.norms.proofs.Squares.{re-le, im-le, square-multiple, square-times}
use Rattle.norms.proofs.Rounding.{rounded_near}
use Rattle.norms.proofs.Bounded.{bounded-plus, bounded-times, bounded-sum, sized_plain}
use Rattle.fold128.specs.Tables.{w_at}
use Rattle.fold128.specs.Symbol.{frequency, useful_term, useful_at}
use Rattle.fold128.proofs.EntrySizes.{w-square}
use Rattle.cell_grid.specs.declared.antenna.Port.{Port}
use Rattle.cell_plan.specs.declared.cell.CellPlan.{CellPlan}
use Rattle.cell_grid.specs.Ports.{port_prefix}
use Rattle.cell_grid.proofs.Bounds.{pick, element-square, sent_element-square}
use Rattle.cell_grid.specs.Load.{sent_element}
use Rattle.cell_grid.specs.Grid.{port_element}
use Rattle.lte_types.specs.declared.numerology.Prefix.{Prefix}
use Rattle.lte_types.specs.Numerology.{normal, symbols_of_slot, useful_start, symbol_of}
use Rattle.lte_types.specs.Timing.{number_of}
use Rattle.cell_grid.specs.Grid.{Elements}
use Rattle.cell_tx.specs.Sent.{prefix_slot_sample, prefix_frame_sample, prefix_sent, sent}

-- ---- samples

-- a sum with magnitude at most 72 * 128 * 16385 is rounded to magnitude at most 1,153
rounded-square : (z : Cpx) → IsBounded 151004160 1 z → square (rounded z 17) ≤ 1153 * 1153
rounded-square z small =
    let r : Cpx = rounded z 17 in
    let off : Cpx = minus (multiple 131072 r) z in
    let near : IsWithin 65536 off = rounded_near z 17 65536 (omega arith) refl refl in
    let error : IsBounded 92682 1 off = sized_plain off 92682 (omega (arith, square-within off 65536 near)) in
    let whole : IsBounded 151096842 1 (plus z off) = bounded-plus z off 151004160 92682 1 small error in
    let back : plus z off ≡ multiple 131072 r = plus-minus (multiple 131072 r) z in
    let law = square-multiple 131072 r in
    let most = whole.bounded in
    omega (arith, law, ap square back, most)

-- a symbol whose resource elements have magnitude at most 128 has samples with magnitude at most 1,153
pub useful-square : (grid : ℕ → Cpx) (n : ℕ) → ((k : ℕ) → k < 72 → square (grid k) ≤ 128 * 128) → square (useful_at grid n) ≤ 1153 * 1153
unfolding useful_at
useful-square grid n small =
    rounded-square (complex_sum_below 72 (useful_term grid n))
    (bounded-sum 72 (useful_term grid n) 2097280 1
    (λ k inside. bounded-times (grid k) (w_at (frequency k * n)) 128 16385 1 1 (sized_plain (grid k) 128 (small k inside)) (sized_plain (w_at (frequency k * n)) 16385 (w-square (frequency k * n)))))

-- all samples of a grid whose resource elements have magnitude at most 128
module _ (prefix : Prefix) (grid : Elements) (small : (sfn subframe symbol k : ℕ) → square (grid sfn subframe symbol k) ≤ 128 * 128) where
  pub slot-square : (sfn slot i : ℕ) → square (prefix_slot_sample prefix grid sfn slot i) ≤ 1153 * 1153
  slot-square sfn slot i =
      let l : ℕ = symbol_of prefix i in
      let row : ℕ → Cpx = grid sfn (slot / 2) (symbols_of_slot prefix * (slot % 2) + l) in
      let each = λ (n : ℕ). useful-square row n (λ k inside. small sfn (slot / 2) (symbols_of_slot prefix * (slot % 2) + l) k) in
      pick (λ z. square z ≤ 1153 * 1153) (nat_lt i (useful_start prefix 0 0 l)) _ _ (each _) (each _)

  pub frame-square : (sfn i : ℕ) → square (prefix_frame_sample prefix grid sfn i) ≤ 1153 * 1153
  unfolding prefix_frame_sample
  frame-square sfn i = slot-square sfn (i / 960) (i % 960)

  pub small-sent-square : (sfn i : ℕ) → square (prefix_sent prefix grid sfn i) ≤ 1153 * 1153
  unfolding prefix_sent
  small-sent-square sfn i = frame-square (number_of sfn i) (i % 19200)

pub sent-square : (port : Port) (plan : CellPlan) (sfn i : ℕ) → square (sent (port_element port plan) sfn i) ≤ 1153 * 1153
sent-square port plan = small-sent-square normal (port_element port plan) (element-square port plan)

-- samples at any port, with or without load, have magnitude at most 1,153
pub sent_by-square : (load : Option ℕ) (port : Port) (plan : CellPlan) (sfn i : ℕ) → square (prefix_sent (port_prefix port) (sent_element load port plan) sfn i) ≤ 1153 * 1153
sent_by-square load port plan = small-sent-square (port_prefix port) (sent_element load port plan) (sent_element-square load port plan)

-- a complex number with magnitude at most 1,153 fits 16 bits
pub small-within : (z : Cpx) → square z ≤ 1153 * 1153 → IsWithin 32767 z
small-within z h = record { re = omega (arith, re-le z 1153 h); im = omega (arith, im-le z 1153 h) }

-- ---- a gain times a sample

-- bounds on a gain, a clean sample and their product
pub record IsAmplified (gain clean : Cpx) : Type 0 where
  pub fits : largest_part gain * largest_part clean ≤ 2 ^ 61
  pub small : IsWithin 32284 (times gain clean)

pub amplified : (gain clean : Cpx) → square gain ≤ 784 → square clean ≤ 1153 * 1153 → IsAmplified gain clean
amplified gain clean g c =
    let whole : square (times gain clean) ≤ 32284 * 32284 =
    omega (arith, square-times gain clean, mul-le (square gain) (square clean) 784 1329409 g c) in
    let large : largest_part gain ≤ 28 = omega (arith, re-le gain 28 g, im-le gain 28 g) in
    let small : largest_part clean ≤ 1153 = omega (arith, re-le clean 1153 c, im-le clean 1153 c) in
    record {
      fits = omega (arith, mul-le (largest_part gain) (largest_part clean) 28 1153 large small);
      small = record { re = re-le (times gain clean) 32284 whole; im = im-le (times gain clean) 32284 whole };
    }

-- ---- errors

-- an error is at most twice the maximum gain
error-bound : (eps n : ℕ) → eps * eps ≤ 4 * n → n ≤ 784 → eps ≤ 56
error-bound eps n e m = elim (cases_lt 56 eps) [
  | inl more ↦ absurd (let k : 57 * 57 ≤ eps * eps = mul-le 57 57 eps eps (omega (arith, more)) (omega (arith, more)) in omega (arith, e, m, k))
  | inr fits ↦ omega (arith, fits)
]

pub added : (a b : ℤ) (m n : ℕ) → nat_abs a ≤ m → nat_abs b ≤ n → nat_abs (a +ℤ b) ≤ m + n
added a b m n p q = omega (arith, ints, p, q)

pub with-error-fits : (clean gain error : Cpx) (eps : ℕ) → square clean ≤ 1153 * 1153 → IsGain gain → eps * eps ≤ 4 * square gain → IsWithin eps error →
    IsWithin 32340 (plus (times gain clean) error)
with-error-fits clean gain error eps c g bound e =
    let most = error-bound eps (square gain) bound g.most in
    let whole = (amplified gain clean g.most c).small in
    record {
      re = omega (arith, most, added (times gain clean).re error.re 32284 eps whole.re e.re);
      im = omega (arith, most, added (times gain clean).im error.im 32284 eps whole.im e.im);
    }
