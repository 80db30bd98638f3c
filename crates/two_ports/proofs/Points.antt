-- The decision variables for a pair's two amplitudes: each is the amplitude times the gains' total square, up to a
-- deviation with three causes.
use Rattle.std.proofs.Common.{◌≡◌, ℕ, ◌+◌, ◌*◌, ◌^◌, ◌≤◌, arith, ap, ap₂, sym, ◌∙◌, subst, mul-le-mul, mul-le-mul_left, mul-le-mul_right}
use Rattle.cs_num.specs.declared.Cpx.{Cpx}
use Rattle.cs_num.specs.Complex.{IsWithin, plus, minus, times, conjugate, negated, square, multiple}
use Rattle.cs_num.proofs.Complex.{plus-associates}
use Rattle.norms.specs.Magnitudes.{IsBounded}
use Rattle.norms.proofs.Algebra.{plus-minus, minus-plus, multiple_twice}
use Rattle.norms.proofs.Bounded.{bounded-plus, sized_re, sized_im}
use Rattle.norms.proofs.Products.{bounded-multiple}
use Rattle.budget.specs.Received.{in_parts}
use Rattle.soft_bits.specs.Pairs.{second_point}
use Rattle.two_ports.proofs.Combined.{combined, combined-plus_right, combined-plus_left, combined-multiple_left, combined-multiple_right, combined_cauchy, at_first, at_second, combined_gains, pair_energy, times-negated, square-negated, plus-negated, turned_twice, conjugate-negated, multiple-negated, minus-negated}

-- h and k are c times the gains, each off by a number whose square is at most s times the gains' total square
pub record AreEstimates (c s : ℕ) (gain other h k : Cpx) : Type 0 where
  pub off : square (minus h (multiple c gain)) ≤ s * (square gain + square other)
  pub other_off : square (minus k (multiple c other)) ≤ s * (square gain + square other)

-- a pair of symbols is observed in two resource elements, each off by a number whose square is at most t times the
-- gains' total square
pub record IsPairNear (t : ℕ) (gain other x y a b : Cpx) : Type 0 where
  pub first : square (minus a (multiple 64 (at_first gain other x y))) ≤ t * (square gain + square other)
  pub second : square (minus b (multiple 64 (at_second gain other x y))) ≤ t * (square gain + square other)

-- 2^28 z is `unit` times n times an amplitude, each component off by at most `off` times n
pub record IsNearAmplitude (unit off n : ℕ) (x z : Cpx) : Type 0 where
  pub within : IsWithin (off * n) (minus (multiple (2 ^ 28) z) (multiple (unit * n) x))

-- u, v and w bound the roots of the three causes' squares: the observed symbols' deviations, those of the estimates,
-- with both amplitudes' squares at most 16200, and both together
pub record AreRoots (s t u v w : ℕ) : Type 0 where
  pub seen : 2 * t ≤ u * u
  pub estimates : 64800 * s ≤ v * v
  pub both : 4 * (s * t) ≤ w * w

module _ (c s t u v w : ℕ) (roots : AreRoots s t u v w) where
  -- ---- the three causes

  both_small : (n i x y : ℕ) → x ≤ i * n → y ≤ i * n → x + y ≤ 2 * i * n
  both_small n i x y h k = omega (arith, h, k)

  product_off : (n q x y i j r : ℕ) → q ≤ x * y → x ≤ i * n → y ≤ j * n → i * j ≤ r * r → q ≤ r * r * (n * n)
  product_off n q x y i j r h e f g =
      let k : x * y ≤ (i * n) * (j * n) = mul-le-mul e f in
      let l : i * j * (n * n) ≤ r * r * (n * n) = mul-le-mul_right (n * n) g in
      omega (arith, h, k, l)

  -- ---- the first amplitude

  abbrev total : ℕ
  total = c * u + (64 * v + w)

  pair_small : (n m i j : ℕ) → m ≡ n * (i + j) → i ≤ 16200 → j ≤ 16200 → m ≤ 32400 * n
  pair_small n m i j e f g = let k : n * (i + j) ≤ n * 32400 = mul-le-mul_left n (omega (arith, f, g)) in omega (arith, e, k)

  first_sized : (gain other h k x y a b : Cpx) → AreEstimates c s gain other h k → square x ≤ 16200 → square y ≤ 16200 → IsPairNear t gain other x y a b →
      IsBounded total ((square gain + square other) * (square gain + square other)) (minus (combined h k a b) (multiple (c * 64 * (square gain + square other)) x))
  first_sized gain other h k x y a b near small small_too seen =
      let n : ℕ = square gain + square other in
      let g : Cpx = multiple c gain in
      let o : Cpx = multiple c other in
      let p : Cpx = minus h g in
      let q : Cpx = minus k o in
      let at_p : Cpx = at_first gain other x y in
      let at_q : Cpx = at_second gain other x y in
      let d : Cpx = minus a (multiple 64 at_p) in
      let e : Cpx = minus b (multiple 64 at_q) in
      let of_seen : Cpx = combined gain other d e in
      let of_channels : Cpx = combined p q at_p at_q in
      let of_both : Cpx = combined p q d e in
      let main : Cpx = multiple (c * 64 * n) x in
      let main_is : combined g o (multiple 64 at_p) (multiple 64 at_q) ≡ main =
      combined-multiple_left c gain other (multiple 64 at_p) (multiple 64 at_q)
      ∙ ap (multiple c) (combined-multiple_right 64 gain other at_p at_q ∙ ap (multiple 64) (combined_gains gain other x y))
      ∙ multiple_twice c 64 (multiple n x) ∙ multiple_twice (c * 64) n x in
      let opened : combined h k a b ≡ plus (plus main (multiple c of_seen)) (plus (multiple 64 of_channels) of_both) =
      ap₂ (λ (s t : Cpx). combined s t a b) (sym (plus-minus h g)) (sym (plus-minus k o))
      ∙ ap₂ (λ (s t : Cpx). combined (plus g p) (plus o q) s t) (sym (plus-minus a (multiple 64 at_p))) (sym (plus-minus b (multiple 64 at_q)))
      ∙ combined-plus_left g o p q (plus (multiple 64 at_p) d) (plus (multiple 64 at_q) e)
      ∙ ap₂ plus
      (combined-plus_right g o (multiple 64 at_p) (multiple 64 at_q) d e ∙ ap₂ plus main_is (combined-multiple_left c gain other d e))
      (combined-plus_right p q (multiple 64 at_p) (multiple 64 at_q) d e ∙ ap (λ (z : Cpx). plus z of_both) (combined-multiple_right 64 p q at_p at_q)) in
      let rest : minus (combined h k a b) main ≡ plus (multiple c of_seen) (plus (multiple 64 of_channels) of_both) =
      ap (λ (z : Cpx). minus z main) (opened ∙ plus-associates main (multiple c of_seen) (plus (multiple 64 of_channels) of_both)) ∙ minus-plus main _ in
      let energy : square at_p + square at_q ≤ 32400 * n = pair_small n (square at_p + square at_q) (square x) (square y) (pair_energy gain other x y) small small_too in
      let near_small : square p + square q ≤ 2 * s * n = both_small n s (square p) (square q) near.off near.other_off in
      let seen_small : square d + square e ≤ 2 * t * n = both_small n t (square d) (square e) seen.first seen.second in
      subst (IsBounded total (n * n)) (sym rest)
      (bounded-plus (multiple c of_seen) (plus (multiple 64 of_channels) of_both) (c * u) (64 * v + w) (n * n)
      (bounded-multiple c of_seen u (n * n)
      (record { bounded = product_off n (square of_seen) n (square d + square e) 1 (2 * t) u (combined_cauchy gain other d e) (omega arith) seen_small (omega (arith, roots.seen)) }))
      (bounded-plus (multiple 64 of_channels) of_both (64 * v) w (n * n)
      (bounded-multiple 64 of_channels v (n * n)
      (record { bounded = product_off n (square of_channels) (square p + square q) (square at_p + square at_q) (2 * s) 32400 v (combined_cauchy p q at_p at_q) near_small energy (omega (arith, roots.estimates)) }))
      (record { bounded = product_off n (square of_both) (square p + square q) (square d + square e) (2 * s) (2 * t) w (combined_cauchy p q d e) near_small seen_small (omega (arith, roots.both)) })))

  -- combining two channels and two observed symbols, all in units of 2^-14
  in_parts_is : (h k a b : Cpx) → combined (in_parts h) (in_parts k) (in_parts a) (in_parts b) ≡ multiple (2 ^ 28) (combined h k a b)
  in_parts_is h k a b =
      combined-multiple_left 16384 h k (in_parts a) (in_parts b) ∙ ap (multiple 16384) (combined-multiple_right 16384 h k a b) ∙ multiple_twice 16384 16384 (combined h k a b)

  near_amplitude : (n : ℕ) (h k x a b : Cpx) → IsBounded total (n * n) (minus (combined (in_parts h) (in_parts k) (in_parts a) (in_parts b)) (multiple (c * 64 * n) x)) →
      IsNearAmplitude (c * 64) total n x (combined h k a b)
  near_amplitude n h k x a b is =
      let off : Cpx = minus (multiple (2 ^ 28) (combined h k a b)) (multiple (c * 64 * n) x) in
      let bounded : IsBounded total (n * n) off = subst (λ (z : Cpx). IsBounded total (n * n) (minus z (multiple (c * 64 * n) x))) (in_parts_is h k a b) is in
      record { within = record { re = sized_re off total n bounded; im = sized_im off total n bounded } }

  -- ---- the second amplitude: the pair (y, -x), observed as b and -a

  second_is : (h k a b : Cpx) → second_point h k a b ≡ combined h k b (negated a)
  second_is h k a b =
      sym (plus-negated (times (conjugate h) b) (times k (conjugate a)))
      ∙ ap (plus (times (conjugate h) b)) (sym (ap (times k) (conjugate-negated a) ∙ times-negated k (conjugate a)))

  turned_pair : (gain other x y a b : Cpx) → IsPairNear t gain other x y a b → IsPairNear t gain other y (negated x) b (negated a)
  turned_pair gain other x y a b seen = record {
    first = subst (λ (z : Cpx). square (minus b (multiple 64 (plus (times gain y) (times other z)))) ≤ t * (square gain + square other)) (sym (turned_twice x)) seen.second;
    second = subst (λ (s : ℕ). s ≤ t * (square gain + square other))
        (sym (ap (λ (z : Cpx). square z) (minus-negated gain other x (conjugate y) a) ∙ square-negated (minus a (multiple 64 (at_first gain other x y))))) seen.first;
  }

  pub pair_is_combined : (gain other h k x y a b : Cpx) → AreEstimates c s gain other (in_parts h) (in_parts k) → square x ≤ 16200 → square y ≤ 16200 →
      IsPairNear t gain other x y (in_parts a) (in_parts b) →
      IsNearAmplitude (c * 64) (c * u + (64 * v + w)) (square gain + square other) x (combined h k a b)
      × IsNearAmplitude (c * 64) (c * u + (64 * v + w)) (square gain + square other) y (second_point h k a b)
  pair_is_combined gain other h k x y a b near small small_too seen = (
    near_amplitude n h k x a b (first_sized gain other (in_parts h) (in_parts k) x y (in_parts a) (in_parts b) near small small_too seen),
    subst (IsNearAmplitude (c * 64) total n y) (sym (second_is h k a b)) (near_amplitude n h k y b (negated a)
        (first_sized gain other (in_parts h) (in_parts k) y (negated x) (in_parts b) (in_parts (negated a)) near small_too (subst (λ s. s ≤ 16200) (sym (square-negated x)) small)
        (subst (IsPairNear t gain other y (negated x) (in_parts b)) (sym (multiple-negated 16384 a)) (turned_pair gain other x y (in_parts a) (in_parts b) seen)))),
  )
    where
      n : ℕ
      n = square gain + square other
