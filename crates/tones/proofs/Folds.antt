-- Folding: a sum over a symbol's samples equals a sum over its folded samples.
use Rattle.std.proofs.Common.{◌≡◌, ℕ, ◌+◌, ◌*◌, ◌%◌, ◌/◌, arith, ap, ◌∙◌}
use Rattle.cs_num.specs.declared.Cpx.{Cpx}
use Rattle.cs_num.specs.Complex.{plus, times, conjugate}
use Rattle.cs_num.specs.Sums.{complex_sum_below}
use Rattle.cs_num.proofs.Sums.{complex_sum_below_quarters, complex_sum_below_same}
use Rattle.fold128.specs.Folding.{seen_of_four}
use Rattle.fold128.proofs.Folds.{four_turn}
use Rattle.tones.specs.Tones.{t_at}
use Rattle.tones.proofs.Laws.{t_same, quarter_turn_is_j}

-- ---- four samples a quarter symbol apart, where T's index advances by s * f per sample

-- sample n's contribution to frequency f
abbrev pub part : (ℕ → Cpx) → ℕ → ℕ → ℕ → Cpx
part samples s f n = times (samples n) (conjugate (t_at (s * (f * n))))

-- q quarters of a symbol later, T's index is 512 * (q * (f % 4)) greater, modulo its period
index_later : (s f m quarter q : ℕ) → s * quarter ≡ 512 → s * (f * (m + q * quarter)) % 2048 ≡ (s * f * m + 512 * (q * (f % 4))) % 2048
index_later s f m quarter q e =
    let whole : s * (f * (m + q * quarter)) ≡ s * f * m + 512 * (f * q) = omega (arith, ap (λ n. f * q * n) e) in
    let split : f ≡ f / 4 * 4 + f % 4 = omega arith in
    let turned : 512 * (f * q) ≡ 2048 * (f / 4 * q) + 512 * (q * (f % 4)) = omega (arith, ap (λ n. n * q) split) in
    omega (arith, whole, turned)

-- four samples as their folded number
four_parts : (samples : ℕ → Cpx) (s f m quarter : ℕ) → s * quarter ≡ 512 →
    plus (part samples s f m) (plus (part samples s f (m + quarter)) (plus (part samples s f (m + 2 * quarter)) (part samples s f (m + 3 * quarter))))
    ≡ times (seen_of_four (f % 4) (samples m) (samples (m + quarter)) (samples (m + 2 * quarter)) (samples (m + 3 * quarter))) (conjugate (t_at (s * f * m)))
four_parts samples s f m quarter e =
    let r : ℕ = f % 4 in
    let x : ℕ = s * f * m in
    let e0 : s * (f * m) ≡ s * f * m = omega arith in
    let e1 = t_same (s * (f * (m + quarter))) (x + 512 * r) (omega (arith, index_later s f m quarter 1 e)) in
    let e2 = t_same (s * (f * (m + 2 * quarter))) (x + 512 * (2 * r)) (index_later s f m quarter 2 e) in
    let e3 = t_same (s * (f * (m + 3 * quarter))) (x + 512 * (3 * r)) (index_later s f m quarter 3 e) in
    rw (e0, e1, e2, e3) (four_turn t_at 512 quarter_turn_is_j r x (samples m) (samples (m + quarter)) (samples (m + 2 * quarter)) (samples (m + 3 * quarter)))

-- ---- the complete sum

-- the sum over a symbol's samples as a sum over a quarter of it
pub sum_folds : (samples : ℕ → Cpx) (s f quarter : ℕ) → s * quarter ≡ 512 →
    complex_sum_below (4 * quarter) (part samples s f)
    ≡ complex_sum_below quarter (λ m. times (seen_of_four (f % 4) (samples m) (samples (m + quarter)) (samples (m + 2 * quarter)) (samples (m + 3 * quarter))) (conjugate (t_at (s * f * m))))
sum_folds samples s f quarter e =
    complex_sum_below_quarters quarter (part samples s f)
    ∙ complex_sum_below_same quarter
    (λ m. plus (part samples s f m) (plus (part samples s f (m + quarter)) (plus (part samples s f (m + 2 * quarter)) (part samples s f (m + 3 * quarter)))))
    (λ m. times (seen_of_four (f % 4) (samples m) (samples (m + quarter)) (samples (m + 2 * quarter)) (samples (m + 3 * quarter))) (conjugate (t_at (s * f * m))))
    (λ m l. four_parts samples s f m quarter e)
