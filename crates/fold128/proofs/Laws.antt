-- Laws of the tables: computed over one period, then extended to all indices.
use Rattle.std.proofs.Common.{◌≡◌, ℕ, ◌+◌, ◌-◌, ◌*◌, ◌%◌, arith, refl, ap, sym, subst, ◌∙◌, Bool, true}
use Rattle.std.proofs.lemmas.Nat.{mul-mod_first}
use Rattle.finite.specs.Sums.{sum_below}
use Rattle.finite.specs.Tests.{every_below}
use Rattle.finite.proofs.Tests.{every_below_at}
use Rattle.cs_num.specs.declared.Cpx.{Cpx}
use Rattle.cs_num.specs.Complex.{nothing, times_j, negated, conjugate}
use Rattle.cs_num.specs.Sums.{complex_sum_below}
use Rattle.cs_num.proofs.Sums.{complex_sum_below_same}
use Rattle.cs_num.proofs.Tested.{is_same, is_same_tells}
use Rattle.fold128.specs.Tables.{quarter, cosine, w_at, z_real, z_imaginary, z_at}
use Rattle.fold128.specs.Laws.{WHasPeriod, HalfTurnNegates, QuarterTurnIsJ, BackwardIsConjugate, TonesCancel, ZHasPeriod, ZBackwardIsConjugate}
use Rattle.fold128.proofs.Entries.{w_period}

-- ---- W

pub w_same : (i k : ℕ) → i % 128 ≡ k % 128 → w_at i ≡ w_at k
w_same i k e = sym (w_period i) ∙ ap w_at e ∙ w_period k

pub w_has_period : WHasPeriod
w_has_period m = w_same (m + 128) m (omega arith)

unfoldable pub negates_at : ℕ → Bool
negates_at m = is_same (w_at (m + 64)) (negated (w_at m))

all_negate : every_below 128 negates_at ≡ true
unfolding quarter cosine w_at negates_at every_below
all_negate = refl

pub half_turn_negates : HalfTurnNegates
unfolding negates_at
half_turn_negates m =
    let here = is_same_tells _ _ (every_below_at 128 negates_at all_negate (m % 128) (omega arith)) in
    w_same (m + 64) (m % 128 + 64) (omega arith) ∙ here ∙ ap negated (w_period m)

unfoldable pub turns_at : ℕ → Bool
turns_at m = is_same (w_at (m + 32)) (times_j (w_at m))

all_turn : every_below 128 turns_at ≡ true
unfolding quarter cosine w_at turns_at every_below
all_turn = refl

pub quarter_turn_is_j : QuarterTurnIsJ
unfolding turns_at
quarter_turn_is_j m =
    let here = is_same_tells _ _ (every_below_at 128 turns_at all_turn (m % 128) (omega arith)) in
    w_same (m + 32) (m % 128 + 32) (omega arith) ∙ here ∙ ap times_j (w_period m)

unfoldable pub mirrors_at : ℕ → Bool
mirrors_at m = is_same (w_at (127 * m)) (conjugate (w_at m))

all_mirror : every_below 128 mirrors_at ≡ true
unfolding quarter cosine w_at mirrors_at every_below
all_mirror = refl

pub backward_is_conjugate : BackwardIsConjugate
unfolding mirrors_at
backward_is_conjugate m =
    let here = is_same_tells _ _ (every_below_at 128 mirrors_at all_mirror (m % 128) (omega arith)) in
    w_same (127 * m) (127 * (m % 128)) (omega arith) ∙ here ∙ ap conjugate (w_period m)

-- ---- tones

abbrev pub tone_sum : ℕ → Cpx
tone_sum d = complex_sum_below 128 (λ n. w_at (d * n))

unfoldable pub cancels_after : ℕ → Bool
cancels_after d = is_same (tone_sum (d + 1)) nothing

all_cancel : every_below 127 cancels_after ≡ true
unfolding quarter cosine w_at sum_below cancels_after every_below
all_cancel = refl

pub tones_that_turn_cancel : TonesCancel
unfolding cancels_after
tones_that_turn_cancel d turns =
    let e : d % 128 - 1 + 1 ≡ d % 128 = omega arith in
    let here = is_same_tells _ _ (every_below_at 127 cancels_after all_cancel (d % 128 - 1) (omega arith)) in
    complex_sum_below_same 128 (λ n. w_at (d * n)) (λ n. w_at (d % 128 * n)) (λ n l. w_same (d * n) (d % 128 * n) (sym (mul-mod_first d n 128)))
    ∙ subst (λ k. tone_sum k ≡ nothing) e here

-- ---- Z

pub z_period : (m : ℕ) → z_at (m % 63) ≡ z_at m
unfolding z_at
z_period m = let e : m % 63 % 63 ≡ m % 63 = omega arith in rw e refl

pub z_same : (i k : ℕ) → i % 63 ≡ k % 63 → z_at i ≡ z_at k
z_same i k e = sym (z_period i) ∙ ap z_at e ∙ z_period k

pub z_has_period : ZHasPeriod
z_has_period m = z_same (m + 63) m (omega arith)

unfoldable pub z_mirrors_at : ℕ → Bool
z_mirrors_at m = is_same (z_at (62 * m)) (conjugate (z_at m))

all_z_mirror : every_below 63 z_mirrors_at ≡ true
unfolding z_real z_imaginary z_at z_mirrors_at every_below
all_z_mirror = refl

pub z_backward_is_conjugate : ZBackwardIsConjugate
unfolding z_mirrors_at
z_backward_is_conjugate m =
    let here = is_same_tells _ _ (every_below_at 63 z_mirrors_at all_z_mirror (m % 63) (omega arith)) in
    z_same (62 * m) (62 * (m % 63)) (omega arith) ∙ here ∙ ap conjugate (z_period m)
