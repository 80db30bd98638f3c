-- The finite sums by which the primary signals stand out: their powers, and for each signal against itself or another
-- one, up to 9 samples apart, the correlation of the overlap, its energy, and the energy outside it.
use Rattle.std.proofs.Common.{◌≡◌, ◌≢◌, ℕ, ◌+◌, ◌-◌, ◌*◌, ◌<◌, ◌≤◌, Bool, true, false, arith, refl, ap, ap₂, subst, ◌∙◌, nat_le, nat_eq}
use Rattle.std.specs.Prelude.{◌&&◌, ◌||◌}
use Rattle.std.proofs.lemmas.Bool.{leb-true, and_parts}
use Rattle.std.proofs.lemmas.Bool.Decides.{nat_tests}
use Rattle.finite.specs.Sums.{sum_below, total_below}
use Rattle.finite.specs.Tests.{every_below}
use Rattle.finite.proofs.Tests.{every_below_at}
use Rattle.cs_num.specs.declared.Cpx.{Cpx}
use Rattle.cs_num.specs.Complex.{square}
use Rattle.norms.specs.Magnitudes.{energy_below, correlation_below}
use Rattle.norms.proofs.Cauchy.{energy_same, correlation_same}
use Rattle.pss_search.specs.Correlation.{wave}
use Rattle.pss_search.proofs.SignalTables.{re_25, im_25, re_29, im_29, re_34, im_34, re_of, im_of, samples, wave_is}

-- A window of 128 samples begins d samples after one that begins 9 samples before a signal. This many of its samples
-- are in front of the signal, this many of the signal's are in front of the window, and this many are in both.
abbrev pub before : ℕ → ℕ
before d = 9 - d

abbrev pub skipped : ℕ → ℕ
skipped d = d - 9

abbrev pub common : ℕ → ℕ
common d = 128 - (9 - d) - (d - 9)

-- the window's part of the signal p, correlated with the signal q
abbrev pub overlap : (ℕ → Cpx) → (ℕ → Cpx) → ℕ → Cpx
overlap p q d = correlation_below (common d) (λ n. p (skipped d + n)) (λ n. q (before d + n))

-- the energy of the window's part of p
abbrev pub kept : (ℕ → Cpx) → ℕ → ℕ
kept p d = energy_below (common d) (λ n. p (skipped d + n))

-- the energy of q outside the window's part of p
abbrev pub edges : (ℕ → Cpx) → ℕ → ℕ
edges q d = energy_below (before d) q + energy_below (skipped d) (λ n. q (before d + common d + n))

-- from these four numbers, whatever is next to p: four times the peak of q is at most `share` times the window's
-- energy, if the error energy is at most `quota` times the gain's square
pub record IsFaint (quota share power overlap kept edges : ℕ) : Type 0 where
  pub rest : 4 * edges ≤ share
  pub much : 110 * quota ≤ 10 * kept
  pub small : 44 * (11 * overlap + 110 * quota * power) ≤ 10 * ((share - 4 * edges) * (10 * kept - 110 * quota))

unfoldable is_faint : ℕ → ℕ → ℕ → ℕ → ℕ → ℕ → Bool
is_faint quota share power overlap kept edges =
    nat_le (4 * edges) share && (nat_le (110 * quota) (10 * kept) && nat_le (44 * (11 * overlap + 110 * quota * power)) (10 * ((share - 4 * edges) * (10 * kept - 110 * quota))))

faint_tells : (quota share power overlap kept edges : ℕ) → is_faint quota share power overlap kept edges ≡ true → IsFaint quota share power overlap kept edges
unfolding is_faint
faint_tells quota share power overlap kept edges test =
    let one = and_parts _ _ test in
    let two = and_parts _ _ one.1 in
    record { rest = leb-true _ _ one.0; much = leb-true _ _ two.0; small = leb-true _ _ two.1 }

-- in a window next to p, or in one that holds another signal p, the signal q is faint
abbrev pub IsFaintAt : ℕ → ℕ → (ℕ → Cpx) → (ℕ → Cpx) → ℕ → Type 0
IsFaintAt quota share p q d = IsFaint quota share (energy_below 128 q) (square (overlap p q d)) (kept p d) (edges q d)

abbrev faint_at : ℕ → ℕ → (ℕ → Cpx) → (ℕ → Cpx) → ℕ → Bool
faint_at quota share p q d = is_faint quota share (energy_below 128 q) (square (overlap p q d)) (kept p d) (edges q d)

-- signals that agree have the same four numbers
abbrev Agree : (ℕ → Cpx) → (ℕ → Cpx) → Type 0
Agree p q = (n : ℕ) → n < 128 → p n ≡ q n

four_same : (quota share a b c d a' b' c' d' : ℕ) → a ≡ a' → b ≡ b' → c ≡ c' → d ≡ d' → is_faint quota share a b c d ≡ is_faint quota share a' b' c' d'
four_same quota share a b c d a' b' c' d' e f g h = rw (e, f, g, h) refl

faint_same : (quota share : ℕ) (p q v w : ℕ → Cpx) (d : ℕ) → d < 19 → Agree p v → Agree q w → faint_at quota share p q d ≡ faint_at quota share v w d
faint_same quota share p q v w d l first second =
    four_same quota share _ _ _ _ _ _ _ _ (energy_same 128 q w second)
    (ap (λ (z : Cpx). square z) (correlation_same (common d) (λ n. p (skipped d + n)) (λ n. v (skipped d + n)) (λ n. q (before d + n)) (λ n. w (before d + n))
    (λ n b. first (skipped d + n) (omega (arith, l, b))) (λ n b. second (before d + n) (omega (arith, l, b)))))
    (energy_same (common d) (λ n. p (skipped d + n)) (λ n. v (skipped d + n)) (λ n b. first (skipped d + n) (omega (arith, l, b))))
    (ap₂ (λ (i j : ℕ). i + j) (energy_same (before d) q w (λ n b. second n (omega (arith, l, b))))
    (energy_same (skipped d) (λ n. q (before d + common d + n)) (λ n. w (before d + common d + n)) (λ n b. second (before d + common d + n) (omega (arith, l, b)))))

-- ---- a signal against itself, with error energy at most 14000 times the gain's square

pub record IsSharp (p : ℕ → Cpx) : Type 0 where
  pub power : 1990000 ≤ energy_below 128 p
  pub beside : (d : ℕ) → d < 19 → d ≢ 9 → IsFaintAt 14000 (3 * energy_below 128 p) p p d

unfoldable sharp_at : (ℕ → Cpx) → ℕ → Bool
sharp_at p d = nat_eq d 9 || faint_at 14000 (3 * energy_below 128 p) p p d

unfoldable is_sharp : (ℕ → Cpx) → Bool
is_sharp p = nat_le 1990000 (energy_below 128 p) && every_below 19 (sharp_at p)

all_sharp : every_below 3 (λ n2. is_sharp (samples n2)) ≡ true
unfolding is_sharp sharp_at is_faint re_25 im_25 re_29 im_29 re_34 im_34 re_of im_of samples sum_below total_below every_below
all_sharp = refl

apart : (d : ℕ) → d ≢ 9 → nat_eq d 9 ≡ false
apart d ne = grind (arith, nat_tests)

-- the test is right for a signal that agrees with the table
sharp_tells : (p q : ℕ → Cpx) → Agree p q → is_sharp q ≡ true → IsSharp p
unfolding is_sharp sharp_at
sharp_tells p q same test = record {
  power = rw (energy_same 128 p q same) (leb-true _ _ parts.0);
  beside = λ d l ne. faint_tells _ _ _ _ _ _
      (ap (λ (share : ℕ). faint_at 14000 share p p d) (ap (λ (n : ℕ). 3 * n) (energy_same 128 p q same)) ∙ faint_same 14000 (3 * energy_below 128 q) p p q q d l same same
      ∙ subst (λ b. (b || faint_at 14000 (3 * energy_below 128 q) q q d) ≡ true) (apart d ne) (every_below_at 19 (sharp_at q) parts.1 d l));
}
  where
    parts : (nat_le 1990000 (energy_below 128 q) ≡ true) × (every_below 19 (sharp_at q) ≡ true)
    parts = and_parts _ _ test

pub wave_is_sharp : (n2 : ℕ) → n2 ≤ 2 → IsSharp (wave n2)
wave_is_sharp n2 h =
    let known : n2 < 3 = omega (arith, h) in
    sharp_tells (wave n2) (samples n2) (λ n l. wave_is n2 n known l) (every_below_at 3 (λ n2. is_sharp (samples n2)) all_sharp n2 known)

-- ---- a signal against another one, with error energy at most 1800 times the gain's square

-- within 9 samples of p, q has no hit: four times its peak is less than its power times the energy
abbrev pub AreApart : (ℕ → Cpx) → (ℕ → Cpx) → Type 0
AreApart p q = (d : ℕ) → d < 19 → IsFaintAt 1800 (energy_below 128 q - 1) p q d

unfoldable apart_at : (ℕ → Cpx) → (ℕ → Cpx) → ℕ → Bool
apart_at p q d = faint_at 1800 (energy_below 128 q - 1) p q d

-- the signals of two different roots
unfoldable are_apart : ℕ → ℕ → Bool
are_apart n2 m2 = nat_eq n2 m2 || every_below 19 (apart_at (samples n2) (samples m2))

all_apart : every_below 3 (λ n2. every_below 3 (are_apart n2)) ≡ true
unfolding are_apart apart_at is_faint re_25 im_25 re_29 im_29 re_34 im_34 re_of im_of samples sum_below total_below every_below
all_apart = refl

one_way : (p q v w : ℕ → Cpx) → Agree p v → Agree q w → every_below 19 (apart_at v w) ≡ true → AreApart p q
unfolding apart_at
one_way p q v w first second test d l = faint_tells _ _ _ _ _ _
    (ap (λ (share : ℕ). faint_at 1800 share p q d) (ap (λ (n : ℕ). n - 1) (energy_same 128 q w second)) ∙ faint_same 1800 (energy_below 128 w - 1) p q v w d l first second
    ∙ every_below_at 19 (apart_at v w) test d l)

pub waves_are_apart : (n2 m2 : ℕ) → n2 ≤ 2 → m2 ≤ 2 → n2 ≢ m2 → AreApart (wave n2) (wave m2)
unfolding are_apart
waves_are_apart n2 m2 h k ne =
    let first : n2 < 3 = omega (arith, h) in
    let second : m2 < 3 = omega (arith, k) in
    let test = every_below_at 3 (are_apart n2) (every_below_at 3 (λ n2. every_below 3 (are_apart n2)) all_apart n2 first) m2 second in
    let differ : nat_eq n2 m2 ≡ false = grind (arith, nat_tests) in
    one_way (wave n2) (wave m2) (samples n2) (samples m2) (λ n l. wave_is n2 n first l) (λ n l. wave_is m2 n second l)
    (subst (λ b. (b || every_below 19 (apart_at (samples n2) (samples m2))) ≡ true) differ test)
