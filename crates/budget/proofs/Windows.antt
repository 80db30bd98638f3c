-- A window of 128 samples that is a gain times a known signal with errors, and a window next to it.
use Rattle.std.proofs.Common.{◌≡◌, ℕ, ◌+◌, ◌-◌, ◌*◌, ◌<◌, ◌≤◌, arith, ap, mul-le-mul, mul-le-mul_left, mul-le-mul_right, mul-pos}
use Rattle.cs_num.specs.declared.Cpx.{Cpx}
use Rattle.cs_num.specs.Complex.{plus, times, square, multiple}
use Rattle.norms.specs.Magnitudes.{energy_below, correlation_below}
use Rattle.norms.proofs.Algebra.{multiple-plus}
use Rattle.norms.proofs.Squares.{square-times, square-multiple}
use Rattle.norms.proofs.TwoTerms.{two_term_cauchy, weighted}
use Rattle.norms.proofs.Cauchy.{cauchy, energy_gain, energy_weighted_term, correlation_gain}
use Rattle.norms.proofs.Gram.{gram_le}
use Rattle.budget.proofs.PeakSums.{IsFaint}

-- a gain times a signal, with errors
abbrev pub with_errors : Cpx → (ℕ → Cpx) → (ℕ → Cpx) → ℕ → Cpx
with_errors gain p e n = plus (times gain (p n)) (e n)

-- ---- the window itself

pub record Peaks (least c e w : ℕ) : Type 0 where
  pub some : 0 < e
  pub high : least * (e * w) ≤ 1000 * c

-- the error energy is at most `quota` times the gain's square, so that errors are at most `lost` thousandths in a
-- window's energy
pub record AreFew (quota least lost : ℕ) : Type 0 where
  pub all : least + lost ≡ 1000
  pub some : 930 * quota < 30 * 1990000
  pub few : 31 * (1000 * quota) + lost * (930 * quota) ≤ lost * (30 * 1990000)

peaks : (quota least lost n w q e c : ℕ) → AreFew quota least lost → 1 ≤ n → 1990000 ≤ w → q ≤ quota * n → 30 * (n * w) ≤ 31 * e + 930 * q → e * w ≤ c + w * q → Peaks least c e w
peaks quota least lost n w q e c numbers some power small low lacks =
    let nw : n * 1990000 ≤ n * w = mul-le-mul_left n power in
    let heard : n * (930 * quota + 1) ≤ n * (30 * 1990000) = mul-le-mul_left n (let l : 930 * quota + 1 ≤ 30 * 1990000 = omega (arith, numbers.some) in l) in
    let windows : lost * (30 * (n * 1990000)) ≤ lost * (31 * e + 930 * q) = mul-le-mul_left lost (let l : 30 * (n * 1990000) ≤ 31 * e + 930 * q = omega (arith, nw, low) in l) in
    let errors : lost * (930 * q) ≤ lost * (930 * (quota * n)) = mul-le-mul_left lost (let l : 930 * q ≤ 930 * (quota * n) = omega (arith, small) in l) in
    let few : n * (31 * (1000 * quota) + lost * (930 * quota)) ≤ n * (lost * (30 * 1990000)) = mul-le-mul_left n numbers.few in
    let room : 1000 * q ≤ lost * e = omega (arith, windows, errors, few, small) in
    let all : w * (1000 * q) ≤ w * (lost * e) = mul-le-mul_left w room in
    let whole : (least + lost) * (e * w) ≡ 1000 * (e * w) = ap (λ (k : ℕ). k * (e * w)) numbers.all in
    record { some = omega (arith, heard, nw, low, small, some); high = omega (arith, all, lacks, whole) }

-- the window's correlation is nearly the product of the energies
pub true_place : (quota least lost : ℕ) (g : Cpx) (p e : ℕ → Cpx) → AreFew quota least lost → 1 ≤ square g → 1990000 ≤ energy_below 128 p → energy_below 128 e ≤ quota * square g →
    Peaks least (square (correlation_below 128 (with_errors g p e) p)) (energy_below 128 (with_errors g p e)) (energy_below 128 p)
true_place quota least lost g p e numbers some power small =
    peaks quota least lost (square g) (energy_below 128 p) (energy_below 128 e) (energy_below 128 (with_errors g p e)) (square (correlation_below 128 (with_errors g p e) p)) numbers some power small
    (low (energy_below 128 (λ k. times g (p k))) (square g * energy_below 128 p) (energy_below 128 (with_errors g p e)) (energy_below 128 e) (energy_gain 128 g p) (energy_weighted_term 30 128 (λ k. times g (p k)) e))
    (gram_le 128 g p e)
  where
    low : (t nw e q : ℕ) → t ≡ nw → 30 * t ≤ (30 + 1) * e + 30 * (30 + 1) * q → 30 * nw ≤ 31 * e + 930 * q
    low t nw e q same h = omega (arith, same, h)

-- ---- a window next to it

-- the known part X of the correlation, whose square is x: |A|^2 = a, where A is the correlation of the overlapping
-- signals, k is the energy of the known part, and `share` quarters are needed
known_part : (quota n a w kept k x share : ℕ) → 110 * quota ≤ 10 * kept → 44 * (11 * a + 110 * quota * w) ≤ 10 * (share * (10 * kept - 110 * quota)) →
    10 * x ≤ 11 * (n * a) + 110 * (quota * n * w) → 10 * (n * kept) ≤ 11 * k + 110 * (quota * n) → 4 * x ≤ share * k
known_part quota n a w kept k x share much small high low =
    let left : ℕ = 10 * kept - 110 * quota in
    let whole : left + 110 * quota ≡ 10 * kept = omega (arith, much) in
    let fits : n * left ≤ 11 * k = fewer n left kept k whole low in
    let scaled : n * (44 * (11 * a + 110 * quota * w)) ≤ n * (10 * (share * left)) = mul-le-mul_left n small in
    let room : share * (n * left) ≤ share * (11 * k) = mul-le-mul_left share fits in
    omega (arith, scaled, room, high)
  where
    fewer : (n left kept k : ℕ) → left + 110 * quota ≡ 10 * kept → 10 * (n * kept) ≤ 11 * k + 110 * (quota * n) → n * left ≤ 11 * k
    fewer n left kept k whole low =
        let all : n * (left + 110 * quota) ≡ n * (10 * kept) = ap (λ (j : ℕ). n * j) whole in
        omega (arith, all, low)

-- the known part X, and a part Y of which only the energy u is known
both_parts : (x y : Cpx) (k u share edges : ℕ) → 4 * edges ≤ share → 4 * square x ≤ (share - 4 * edges) * k → square y ≤ u * edges →
    4 * square (plus x y) ≤ share * (k + u)
both_parts x y k u share edges rest p q =
    down (square (plus x y)) (square (multiple 2 (plus x y))) (square (plus (multiple 2 x) (multiple 2 y))) (share - 4 * edges) (square-multiple 2 (plus x y))
    (ap (λ (z : Cpx). square z) (multiple-plus 2 x y)) (omega (arith, rest))
    (two_term_cauchy (multiple 2 x) (multiple 2 y) (share - 4 * edges) k (4 * edges) u (first (square x) (square (multiple 2 x)) (share - 4 * edges) (square-multiple 2 x) p)
    (second (square y) (square (multiple 2 y)) (square-multiple 2 y) q))
  where
    first : (s t a : ℕ) → t ≡ 2 * 2 * s → 4 * s ≤ a * k → t ≤ a * k
    first s t a e h = omega (arith, e, h)

    second : (s t : ℕ) → t ≡ 2 * 2 * s → s ≤ u * edges → t ≤ 4 * edges * u
    second s t e h = omega (arith, e, h)

    down : (s t v a : ℕ) → t ≡ 2 * 2 * s → t ≡ v → a + 4 * edges ≡ share → v ≤ (a + 4 * edges) * (k + u) → 4 * s ≤ share * (k + u)
    down s t v a e f whole h =
        let same : (a + 4 * edges) * (k + u) ≡ share * (k + u) = ap (λ (n : ℕ). n * (k + u)) whole in
        omega (arith, e, f, same, h)

-- A window of 128 samples has a unknown ones, m known ones of the signal p with errors e, and s unknown ones; f, g and
-- h are the parts of q with which they are correlated.
pub beside : (quota a m s : ℕ) (gain : Cpx) (x p e z f g h : ℕ → Cpx) (w share : ℕ) → energy_below m g ≤ w → energy_below m e ≤ quota * square gain →
    IsFaint quota share w (square (correlation_below m p g)) (energy_below m p) (energy_below a f + energy_below s h) →
    4 * square (plus (correlation_below m (with_errors gain p e) g) (plus (correlation_below a x f) (correlation_below s z h)))
    ≤ share * (energy_below m (with_errors gain p e) + (energy_below a x + energy_below s z))
beside quota a m s gain x p e z f g h w share part small faint =
    both_parts y (plus (correlation_below a x f) (correlation_below s z h)) (energy_below m (with_errors gain p e)) (energy_below a x + energy_below s z) share
    (energy_below a f + energy_below s h) faint.rest
    (known_part quota (square gain) (square (correlation_below m p g)) w (energy_below m p) (energy_below m (with_errors gain p e)) (square y) (share - 4 * (energy_below a f + energy_below s h))
    faint.much faint.small
    (high (square gain) w (square b) (square (correlation_below m p g)) (square c) (square y) (energy_below m e) (energy_below m g)
    (ap (λ (v : Cpx). square v) (correlation_gain m gain p e g)) (square-times gain (correlation_below m p g)) (cauchy m e g) (weighted 10 b c) small part)
    (low (square gain) (energy_below m p) (energy_below m (λ k. times gain (p k))) (energy_below m (with_errors gain p e)) (energy_below m e) (energy_gain m gain p) small
    (energy_weighted_term 10 m (λ k. times gain (p k)) e)))
    (two_term_cauchy (correlation_below a x f) (correlation_below s z h) (energy_below a x) (energy_below a f) (energy_below s z) (energy_below s h) (cauchy a x f) (cauchy s z h))
  where
    y : Cpx
    y = correlation_below m (with_errors gain p e) g

    b : Cpx
    b = times gain (correlation_below m p g)

    c : Cpx
    c = correlation_below m e g

    high : (n w t d c x ee pp : ℕ) → x ≡ square (plus b (correlation_below m e g)) → t ≡ n * d → c ≤ ee * pp → 10 * square (plus b (correlation_below m e g)) ≤ (10 + 1) * t + 10 * (10 + 1) * c →
        ee ≤ quota * n → pp ≤ w → 10 * x ≤ 11 * (n * d) + 110 * (quota * n * w)
    high n w t d c x ee pp same size bound all small part =
        let k : ee * pp ≤ quota * n * w = mul-le-mul small part in
        omega (arith, same, size, bound, all, k)

    low : (n kept t k ee : ℕ) → t ≡ n * kept → ee ≤ quota * n → 10 * t ≤ (10 + 1) * k + 10 * (10 + 1) * ee → 10 * (n * kept) ≤ 11 * k + 110 * (quota * n)
    low n kept t k ee same small all = omega (arith, same, small, all)

-- ---- the comparison

-- a metric of at least 990/1000 is above one of at most 3/4
pub above : (c e w c' e' : ℕ) → 990 * (e * w) ≤ 1000 * c → 4 * c' ≤ 3 * w * e' → 0 < e → 0 < e' → 0 < w → c' * e < c * e'
above c e w c' e' high low some some' power =
    let a : 990 * (e * w) * e' ≤ 1000 * c * e' = mul-le-mul_right e' high in
    let b : 4 * c' * e ≤ 3 * w * e' * e = mul-le-mul_right e low in
    let p : 0 < e * w * e' = mul-pos (mul-pos some power) some' in
    omega (arith, a, b, p)
