-- The causes of a demodulated value's deviation.
use Rattle.std.proofs.Common.{◌≡◌, ℕ, ◌+◌, ◌*◌, ◌^◌, ◌<◌, ◌≤◌, arith, refl, ap, ap₂, sym, subst, ◌∙◌, ℤ, pos, ◌+ℤ◌, ◌-ℤ◌, ◌*ℤ◌, mul-le-mul, mul-le-mul_left}
use Rattle.finite.proofs.Sums.{total_below-within}
use Rattle.finite.proofs.Ring.{var, lit, same}
use Rattle.finite.proofs.Ring as ring
use Rattle.cs_num.specs.declared.Cpx.{Cpx}
use Rattle.cs_num.specs.Complex.{IsWithin, plus, times, square, minus, multiple}
use Rattle.cs_num.specs.Rounding.{rounded}
use Rattle.cs_num.proofs.Complex.{square-within, pair, plus-associates, times-plus}
use Rattle.norms.specs.Magnitudes.{IsBounded, energy_below, correlation_below}
use Rattle.norms.proofs.Algebra.{plus-minus, minus-plus, plus-exchanges, times-minus, times-multiple}
use Rattle.norms.proofs.Squares.{square-multiple, square-times}
use Rattle.norms.proofs.TwoTerms.{two_term_cauchy}
use Rattle.norms.proofs.Bounded.{sized_plain, bounded-plus}
use Rattle.norms.proofs.Cauchy.{cauchy, correlation_same, correlation_plus, correlation_times, correlation_multiple}
use Rattle.norms.proofs.Rounding.{rounded_near}
use Rattle.fold128.specs.Symbol.{frequency, useful_at}
use Rattle.fold128.specs.Spectrum.{spectrum_at}
use Rattle.fold128.proofs.EntrySizes.{w-square}
use Rattle.budget.specs.Received.{AreAmplitudes, in_parts, off_by}
use Rattle.budget.specs.Budget.{SendingHasTwoCauses, LeakageIsSmall, RoundingSentIsSmall, SendingIsSmall, SendingIsLinear, DeviationHasThreeCauses, DeviationHasFourCauses}
use Rattle.budget.specs.Budget.{unrounded, leakage, rounding_sent, sending_off, with_gains}
use Rattle.budget.proofs.Leakage.{sum_sent, tone_at, leak, seen_sent, leak-small}

-- ---- energies

energy-le : (n bound : ℕ) (f : ℕ → Cpx) → ((k : ℕ) → k < n → square (f k) ≤ bound) → energy_below n f ≤ n * bound
energy-le n bound f h = total_below-within n bound (λ k. square (f k)) h

tone-energy : (k : ℕ) → energy_below 128 (tone_at k) ≤ 128 * 268468225
tone-energy k = energy-le 128 268468225 (tone_at k) (λ n l. w-square (frequency k * n))

-- by Cauchy's inequality: the demodulated value of samples with this energy
seen-small : (f : ℕ → Cpx) (k e : ℕ) → energy_below 128 f ≤ e → square (correlation_below 128 f (tone_at k)) ≤ e * (128 * 268468225)
seen-small f k e h = chain (square (correlation_below 128 f (tone_at k))) (energy_below 128 f) (energy_below 128 (tone_at k)) (cauchy 128 f (tone_at k)) h (tone-energy k)
  where
    chain : (s a b : ℕ) → s ≤ a * b → a ≤ e → b ≤ 128 * 268468225 → s ≤ e * (128 * 268468225)
    chain s a b p q r = let t : a * b ≤ e * (128 * 268468225) = mul-le-mul q r in omega (arith, p, t)

-- ---- the transmit error

-- 2^17 times a sample of a useful part is within half a unit of the sum before rounding
pub sample_rounding_is_small : (grid : ℕ → Cpx) (n : ℕ) → IsWithin 65536 (minus (multiple 131072 (useful_at grid n)) (unrounded grid n))
unfolding useful_at
sample_rounding_is_small grid n = rounded_near (unrounded grid n) 17 65536 (omega arith) refl refl

-- 2^17 times a sample of a useful part, less the sum before rounding
rounding_off : (ℕ → Cpx) → ℕ → Cpx
rounding_off grid n = minus (multiple 131072 (useful_at grid n)) (sum_sent grid n)

rounding-off_small : (grid : ℕ → Cpx) (n : ℕ) → IsWithin 65536 (rounding_off grid n)
unfolding rounding_off sum_sent
rounding-off_small grid n = sample_rounding_is_small grid n

rounding-seen_small : (grid : ℕ → Cpx) (k : ℕ) → square (correlation_below 128 (rounding_off grid) (tone_at k)) ≤ (128 * (2 * (65536 * 65536))) * (128 * 268468225)
rounding-seen_small grid k =
    seen-small (rounding_off grid) k (128 * (2 * (65536 * 65536)))
    (energy-le 128 (2 * (65536 * 65536)) (rounding_off grid) (λ n l. square-within (rounding_off grid n) 65536 (rounding-off_small grid n)))

-- 2^17 times the unrounded demodulated value of a useful part, less 2^35 times the amplitude
sending : (ℕ → Cpx) → ℕ → Cpx
sending grid k = minus (multiple 131072 (correlation_below 128 (useful_at grid) (tone_at k))) (multiple 34359738368 (grid k))

sending_is : (grid : ℕ → Cpx) (k : ℕ) → k < 72 → sending grid k ≡ plus (leak grid k) (correlation_below 128 (rounding_off grid) (tone_at k))
unfolding sending rounding_off
sending_is grid k l =
    let r : Cpx = correlation_below 128 (rounding_off grid) (tone_at k) in
    let parts : multiple 131072 (correlation_below 128 (useful_at grid) (tone_at k)) ≡ plus (multiple 34359738368 (grid k)) (plus (leak grid k) r) =
    sym (correlation_multiple 128 131072 (useful_at grid) (tone_at k))
    ∙ correlation_same 128 (λ n. multiple 131072 (useful_at grid n)) (λ n. plus (sum_sent grid n) (rounding_off grid n)) (tone_at k) (tone_at k)
    (λ n p. sym (plus-minus (multiple 131072 (useful_at grid n)) (sum_sent grid n))) (λ n p. refl)
    ∙ correlation_plus 128 (sum_sent grid) (rounding_off grid) (tone_at k)
    ∙ ap (λ (z : Cpx). plus z r) (seen_sent grid k l)
    ∙ plus-associates (multiple 34359738368 (grid k)) (leak grid k) r in
    ap (λ (z : Cpx). minus z (multiple 34359738368 (grid k))) parts ∙ minus-plus (multiple 34359738368 (grid k)) (plus (leak grid k) r)

leakage_is : (grid : ℕ → Cpx) (k : ℕ) → k < 72 → leakage grid k ≡ leak grid k
unfolding spectrum_at sum_sent
leakage_is grid k l =
    ap (λ (z : Cpx). minus z (multiple 34359738368 (grid k))) (seen_sent grid k l) ∙ minus-plus (multiple 34359738368 (grid k)) (leak grid k)

pub sending_has_two_causes : SendingHasTwoCauses
unfolding sending spectrum_at rounding_off sum_sent
sending_has_two_causes grid k l = sending_is grid k l ∙ ap (λ (z : Cpx). plus z (rounding_sent grid k)) (sym (leakage_is grid k l))

pub leakage_is_small : LeakageIsSmall
leakage_is_small grid k small l =
    subst (λ (z : Cpx). 100 * square z ≤ (61 * 2 ^ 31) * (61 * 2 ^ 31)) (sym (leakage_is grid k l)) (fits (square (leak grid k)) (leak-small grid k small).bounded)
  where
    fits : (s : ℕ) → s ≤ 13094092800 * 13094092800 * 1 → 100 * s ≤ (61 * 2 ^ 31) * (61 * 2 ^ 31)
    fits s h = omega (arith, h)

pub rounding_sent_is_small : RoundingSentIsSmall
unfolding spectrum_at rounding_off sum_sent
rounding_sent_is_small grid k = fits (square (rounding_sent grid k)) (rounding-seen_small grid k)
  where
    fits : (s : ℕ) → s ≤ (128 * (2 * (65536 * 65536))) * (128 * 268468225) → 100 * s ≤ (907 * 2 ^ 31) * (907 * 2 ^ 31)
    fits s h = omega (arith, h)

-- the transmit error is at most 97 units of 2^31
pub sending_is_small : SendingIsSmall
unfolding sending spectrum_at
sending_is_small grid k small l =
    let r : Cpx = correlation_below 128 (rounding_off grid) (tone_at k) in
    let a : IsBounded 13094092800 1 (leak grid k) = leak-small grid k small in
    let b : IsBounded 194584248320 1 r = sized_plain r 194584248320 (fits (square r) (rounding-seen_small grid k)) in
    subst (λ (z : Cpx). square z ≤ (97 * 2 ^ 31) * (97 * 2 ^ 31)) (sym (sending_is grid k l))
    (plain (square (plus (leak grid k) r)) (bounded-plus (leak grid k) r 13094092800 194584248320 1 a b).bounded)
  where
    fits : (s : ℕ) → s ≤ (128 * (2 * (65536 * 65536))) * (128 * 268468225) → s ≤ 194584248320 * 194584248320
    fits s h = omega (arith, h)

    plain : (s : ℕ) → s ≤ (13094092800 + 194584248320) * (13094092800 + 194584248320) * 1 → s ≤ (97 * 2 ^ 31) * (97 * 2 ^ 31)
    plain s h = omega (arith, h)

-- ---- the whole deviation

-- the summed deviations are the summed samples in parts, less the summed transmitted samples
off_is : (sent samples : ℕ → Cpx) (k : ℕ) →
    correlation_below 128 (off_by samples sent) (tone_at k) ≡ minus (in_parts (correlation_below 128 samples (tone_at k))) (correlation_below 128 sent (tone_at k))
off_is sent samples k =
    let x : Cpx = correlation_below 128 sent (tone_at k) in
    let e : Cpx = correlation_below 128 (off_by samples sent) (tone_at k) in
    sym (ap (λ (z : Cpx). minus z x) whole ∙ minus-plus x e)
  where
    whole : in_parts (correlation_below 128 samples (tone_at k)) ≡ plus (correlation_below 128 sent (tone_at k)) (correlation_below 128 (off_by samples sent) (tone_at k))
    whole =
        sym (correlation_multiple 128 16384 samples (tone_at k))
        ∙ correlation_same 128 (λ n. in_parts (samples n)) (λ n. plus (sent n) (off_by samples sent n)) (tone_at k) (tone_at k)
        (λ n p. sym (plus-minus (in_parts (samples n)) (sent n))) (λ n p. refl)
        ∙ correlation_plus 128 sent (off_by samples sent) (tone_at k)

-- one component: s is demodulated, p the amplitude, x the transmitted sum, and y the received sum
whole_part : (s p x y : ℤ) →
    pos 536870912 *ℤ (pos 16384 *ℤ s -ℤ pos 64 *ℤ p)
    ≡ pos 131072 *ℤ x -ℤ pos 34359738368 *ℤ p +ℤ (pos 131072 *ℤ (pos 16384 *ℤ y -ℤ x) +ℤ pos 2147483648 *ℤ (pos 4096 *ℤ s -ℤ y))
whole_part s p x y =
    let a = var s in
    let b = var p in
    let c = var x in
    let d = var y in
    same (ring.times (lit 536870912) (ring.minus (ring.times (lit 16384) a) (ring.times (lit 64) b)))
    (ring.plus (ring.minus (ring.times (lit 131072) c) (ring.times (lit 34359738368) b))
    (ring.plus (ring.times (lit 131072) (ring.minus (ring.times (lit 16384) d) c)) (ring.times (lit 2147483648) (ring.minus (ring.times (lit 4096) a) d)))) (omega arith)

whole_is : (s p x y : Cpx) →
    multiple 536870912 (minus (in_parts s) (multiple 64 p))
    ≡ plus (minus (multiple 131072 x) (multiple 34359738368 p)) (plus (multiple 131072 (minus (in_parts y) x)) (multiple 2147483648 (minus (multiple 4096 s) y)))
whole_is s p x y = pair (whole_part s.re p.re x.re y.re) (whole_part s.im p.im x.im y.im)

multiple-small : (m b : ℕ) (z : Cpx) → square z ≤ b → square (multiple m z) ≤ m * m * b
multiple-small m b z h = rw (square-multiple m z) (mul-le-mul_left (m * m) h)

pub three_causes : DeviationHasThreeCauses
unfolding spectrum_at
three_causes sent samples amplitude k =
    let y : Cpx = correlation_below 128 samples (tone_at k) in
    let x : Cpx = correlation_below 128 sent (tone_at k) in
    let e : Cpx = correlation_below 128 (off_by samples sent) (tone_at k) in
    let r : Cpx = minus (multiple 4096 (rounded y 12)) y in
    record {
      errors = multiple 131072 e;
      rounding = multiple 2147483648 r;
      whole =
          whole_is (rounded y 12) amplitude x y
          ∙ ap (λ (z : Cpx). plus (minus (multiple 131072 x) (multiple 34359738368 amplitude)) (plus (multiple 131072 z) (multiple 2147483648 r))) (sym (off_is sent samples k));
      errors_is = refl;
      rounding_is = refl;
      errors_small = scaled (energy_below 128 (off_by samples sent)) (square (multiple 131072 e))
          (multiple-small 131072 (energy_below 128 (off_by samples sent) * (128 * 268468225)) e (seen-small (off_by samples sent) k (energy_below 128 (off_by samples sent)) (itself _)));
      rounding_small = multiple-small 2147483648 8388608 r (square-within r 2048 (rounded_near y 12 2048 (omega arith) refl refl));
    }
  where
    itself : (n : ℕ) → n ≤ n
    itself n = omega arith

    scaled : (e s : ℕ) → s ≤ 131072 * 131072 * (e * (128 * 268468225)) → s ≤ 2 ^ 41 * e * (16385 * 16385)
    scaled e s h = omega (arith, h)

-- ---- several ports together

gain_in : (g x a : Cpx) → times g (minus (multiple 131072 x) (multiple 34359738368 a)) ≡ minus (multiple 131072 (times g x)) (multiple 34359738368 (times g a))
gain_in g x a = times-minus g (multiple 131072 x) (multiple 34359738368 a) ∙ ap₂ minus (times-multiple 131072 g x) (times-multiple 34359738368 g a)

pub joined_part : (m n x y a b : ℤ) → m *ℤ (x +ℤ y) -ℤ n *ℤ (a +ℤ b) ≡ m *ℤ x -ℤ n *ℤ a +ℤ (m *ℤ y -ℤ n *ℤ b)
joined_part m n x y a b =
    let p = var m in
    let q = var n in
    let c = var x in
    let d = var y in
    let e = var a in
    let f = var b in
    same (ring.minus (ring.times p (ring.plus c d)) (ring.times q (ring.plus e f)))
    (ring.plus (ring.minus (ring.times p c) (ring.times q e)) (ring.minus (ring.times p d) (ring.times q f))) (omega arith)

gain_out : (g : Cpx) (sent : ℕ → Cpx) (amplitude : Cpx) (k : ℕ) → sending_off (λ n. times g (sent n)) (times g amplitude) k ≡ times g (sending_off sent amplitude k)
unfolding spectrum_at
gain_out g sent amplitude k =
    ap (λ (z : Cpx). minus (multiple 131072 z) (multiple 34359738368 (times g amplitude))) (correlation_times 128 g sent (tone_at k))
    ∙ sym (gain_in g (correlation_below 128 sent (tone_at k)) amplitude)

parts_out : (s t : ℕ → Cpx) (x y : Cpx) (k : ℕ) → sending_off (λ n. plus (s n) (t n)) (plus x y) k ≡ plus (sending_off s x k) (sending_off t y k)
unfolding spectrum_at
parts_out s t x y k =
    let c : Cpx = correlation_below 128 s (tone_at k) in
    let d : Cpx = correlation_below 128 t (tone_at k) in
    ap (λ (z : Cpx). minus (multiple 131072 z) (multiple 34359738368 (plus x y))) (correlation_plus 128 s t (tone_at k))
    ∙ pair (joined_part (pos 131072) (pos 34359738368) c.re d.re x.re y.re) (joined_part (pos 131072) (pos 34359738368) c.im d.im x.im y.im)

pub sending_is_linear : SendingIsLinear
sending_is_linear gain sent others amplitude other k =
    parts_out (λ n. times gain (sent n)) others (times gain amplitude) other k ∙ ap (λ (z : Cpx). plus z (sending_off others other k)) (gain_out gain sent amplitude k)

-- ---- two symbols with a gain each

both_off : (g h : Cpx) (grid second : ℕ → Cpx) (k : ℕ) → k < 72 →
    sending_off (λ n. with_gains g h (useful_at grid n) (useful_at second n)) (with_gains g h (grid k) (second k)) k
    ≡ plus (with_gains g h (leakage grid k) (leakage second k)) (with_gains g h (rounding_sent grid k) (rounding_sent second k))
both_off g h grid second k l =
    sending_is_linear g (useful_at grid) (λ n. times h (useful_at second n)) (grid k) (times h (second k)) k
    ∙ ap₂ plus (ap (times g) (sending_has_two_causes grid k l) ∙ times-plus g (leakage grid k) (rounding_sent grid k))
    (gain_out h (useful_at second) (second k) k ∙ ap (times h) (sending_has_two_causes second k l) ∙ times-plus h (leakage second k) (rounding_sent second k))
    ∙ plus-exchanges (times g (leakage grid k)) (times g (rounding_sent grid k)) (times h (leakage second k)) (times h (rounding_sent second k))

pub four_causes : DeviationHasFourCauses
four_causes gain other grid second samples k l =
    let t = three_causes (λ n. with_gains gain other (useful_at grid n) (useful_at second n)) samples (with_gains gain other (grid k) (second k)) k in
    record {
      errors = t.errors;
      rounding = t.rounding;
      whole = t.whole ∙ ap (λ (z : Cpx). plus z (plus t.errors t.rounding)) (both_off gain other grid second k l);
      errors_small = t.errors_small;
      rounding_small = t.rounding_small;
    }

-- the transmitted samples carry an amplitude, and their squared transmit error is at most `bound` times the gains'
-- summed squares
pub record IsSent (bound power : ℕ) (sent : ℕ → Cpx) (amplitude : Cpx) (k : ℕ) : Type 0 where
  pub off : square (sending_off sent amplitude k) ≤ bound * power

-- one port with a gain
pub sent_by_one : (g : Cpx) (grid : ℕ → Cpx) (k : ℕ) → AreAmplitudes grid → k < 72 →
    IsSent ((97 * 2 ^ 31) * (97 * 2 ^ 31)) (square g) (λ n. times g (useful_at grid n)) (times g (grid k)) k
sent_by_one g grid k small l = record {
  off = by_magnitude (square (sending_off (λ n. times g (useful_at grid n)) (times g (grid k)) k)) (square g) (square (sending_off (useful_at grid) (grid k) k))
      (ap (λ (z : Cpx). square z) (gain_out g (useful_at grid) (grid k) k) ∙ square-times g (sending_off (useful_at grid) (grid k) k)) (sending_is_small grid k small l);
}
  where
    by_magnitude : (s n t : ℕ) → s ≡ n * t → t ≤ (97 * 2 ^ 31) * (97 * 2 ^ 31) → s ≤ ((97 * 2 ^ 31) * (97 * 2 ^ 31)) * n
    by_magnitude s n t e h =
        let k : n * t ≤ n * ((97 * 2 ^ 31) * (97 * 2 ^ 31)) = mul-le-mul_left n h in
        omega (arith, e, k)

-- two together, by Cauchy's inequality
pub sent-plus : (a b v w : ℕ) (s t : ℕ → Cpx) (x y : Cpx) (k : ℕ) → IsSent a v s x k → IsSent b w t y k → IsSent (a + b) (v + w) (λ n. plus (s n) (t n)) (plus x y) k
sent-plus a b v w s t x y k p q = record {
  off = subst (λ (z : Cpx). square z ≤ (a + b) * (v + w)) (sym (parts_out s t x y k)) (two_term_cauchy (sending_off s x k) (sending_off t y k) a v b w p.off q.off);
}
