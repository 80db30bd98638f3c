-- Pilots: the demodulated value of an amplitude of known magnitude, its square, and the channel estimate from it.
use Rattle.std.proofs.Common.{◌≡◌, ℕ, ◌+◌, ◌*◌, ◌/◌, ◌^◌, ◌≤◌, arith, refl, ap, ap₂, sym, ◌∙◌, subst, inl, inr, ℤ, mul-le-mul_left}
use Rattle.std.specs.Prelude.{nat_abs}
use Rattle.cs_num.specs.declared.Cpx.{Cpx}
use Rattle.cs_num.specs.Complex.{plus, times, conjugate, square, multiple}
use Rattle.crs.specs.Qpsk.{IsFull, IsPoint}
use Rattle.crs.specs.declared.pattern.Pattern.{Pattern}
use Rattle.crs.proofs.Values.{pattern_reference-IsPoint}
use Rattle.soft_bits.specs.Soft.{pilot_subcarrier, pattern_symbol, pattern_sent}
use Rattle.norms.specs.Magnitudes.{IsBounded}
use Rattle.norms.proofs.Squares.{square-times, square-conjugate, square-multiple}
use Rattle.norms.proofs.TwoTerms.{weighted, weighted_term}
use Rattle.budget.proofs.Parts.{square_in_parts}
use Rattle.budget.proofs.Deviations.{deviation, seen_is, channel_is}
use Rattle.budget.proofs.Near.{IsNear}

full_square : (z : ℤ) → IsFull z → nat_abs z * nat_abs z ≡ 8100
full_square z (inl e) = rw e refl
full_square z (inr e) = rw e refl

pub full-size : (a : Cpx) → IsPoint a → square a ≡ 16200
full-size a full = ap₂ (λ m n. m + n) (full_square a.re full.re) (full_square a.im full.im)

pub sent-size : (pattern : Pattern) (identity number i : ℕ) → square (pattern_sent pattern identity number i) ≡ 16200
unfolding pattern_sent
sent-size pattern identity number i = full-size _ (pattern_reference-IsPoint pattern identity number (pattern_symbol pattern identity i) (pilot_subcarrier identity i / 6))

-- p is the demodulated value of an amplitude d with the gain g, within t times the root of n, and the square of d is
-- 16200
pub record IsPilot (t n : ℕ) (g d p : Cpx) : Type 0 where
  pub full : square d ≡ 16200
  pub seen : IsBounded t n (deviation g d p)

-- times the conjugate amplitude, it is near 64 * 16200 times the gain
pub turned_pilot-near : (t n : ℕ) (g d p : Cpx) → IsPilot t n g d p → IsNear (16200 * n) g 1036800 t (times p (conjugate d))
turned_pilot-near t n g d p is = record {
  off = times (deviation g d p) (conjugate d);
  is = channel_is g d p ∙ ap (λ (m : ℕ). plus (multiple (64 * m) g) (times (deviation g d p) (conjugate d))) is.full;
  small = record {
    bounded = product (square (times (deviation g d p) (conjugate d))) (square (deviation g d p)) (square (conjugate d)) (square-times (deviation g d p) (conjugate d)) (square-conjugate d ∙ is.full) is.seen.bounded;
  };
}
  where
    product : (s a b : ℕ) → s ≡ a * b → b ≡ 16200 → a ≤ t * t * n → s ≤ t * t * (16200 * n)
    product s a b e f h =
        let g : s ≡ a * 16200 = e ∙ ap (λ m. a * m) f in
        omega (arith, g, h)

-- its square, in parts, is near 4096 * 16200 times the gain's square, by any weight
pub record IsPilotSquare (m t n w e : ℕ) : Type 0 where
  pub least : m * (66355200 * w) ≤ (m + 1) * (2 ^ 28 * e) + m * (m + 1) * (t * t * n)
  pub most : m * (2 ^ 28 * e) ≤ (m + 1) * (66355200 * w) + m * (m + 1) * (t * t * n)

pub pilot-square : (m t n : ℕ) (g d p : Cpx) → IsPilot t n g d p → IsPilotSquare m t n (square g) (square p)
pilot-square m t n g d p is =
    numbers (square g) (square d) (square (multiple 64 d)) (square x) (square v) (square (plus x v)) (square p) (sym (square_in_parts p) ∙ ap (λ (z : Cpx). square z) (seen_is g d p))
    is.full (square-multiple 64 d) (square-times g (multiple 64 d)) is.seen.bounded (weighted m x v) (weighted_term m x v)
  where
    x : Cpx
    x = times g (multiple 64 d)

    v : Cpx
    v = deviation g d p

    numbers : (w a b x v s e : ℕ) → 2 ^ 28 * e ≡ s → a ≡ 16200 → b ≡ 64 * 64 * a → x ≡ w * b → v ≤ t * t * n → m * s ≤ (m + 1) * x + m * (m + 1) * v → m * x ≤ (m + 1) * s + m * (m + 1) * v → IsPilotSquare m t n w e
    numbers w a b x v s e parts f h c k up low =
        let main : x ≡ 66355200 * w = whole w b x c (omega (arith, f, h)) in
        let off : m * (m + 1) * v ≤ m * (m + 1) * (t * t * n) = mul-le-mul_left (m * (m + 1)) k in
        record {
          least = subst (λ y. m * (66355200 * w) ≤ (m + 1) * y + m * (m + 1) * (t * t * n)) (sym parts) (subst (λ y. m * y ≤ (m + 1) * s + m * (m + 1) * (t * t * n)) main (omega (arith, off, low)));
          most = subst (λ y. m * y ≤ (m + 1) * (66355200 * w) + m * (m + 1) * (t * t * n)) (sym parts) (subst (λ y. m * s ≤ (m + 1) * y + m * (m + 1) * (t * t * n)) main (omega (arith, off, up)));
        }
      where
        whole : (w b x : ℕ) → x ≡ w * b → b ≡ 66355200 → x ≡ 66355200 * w
        whole w b x c f = let k : w * b ≡ w * 66355200 = ap (λ y. w * y) f in omega (arith, c, k)
