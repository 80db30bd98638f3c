-- Laws of the table.
use Rattle.std.proofs.Common.{◌≡◌, ℕ, ◌+◌, ◌%◌, arith, ap, ◌∙◌, ℤ, neg_ℤ}
use Rattle.std.proofs.lemmas.Int.{ints}
use Rattle.cs_num.proofs.Complex.{pair}
use Rattle.tones.specs.Tones.{cosine, t_at}
use Rattle.tones.specs.Laws.{THasPeriod, HalfTurnNegates, QuarterTurnIsJ}
use Rattle.tones.proofs.Entries.{cosine_same, cosine_negates}

pub t_same : (i k : ℕ) → i % 2048 ≡ k % 2048 → t_at i ≡ t_at k
unfolding t_at
t_same i k e = pair (cosine_same i k e) (cosine_same (i + 1536) (k + 1536) (omega (arith, e)))

pub t_has_period : THasPeriod
t_has_period m = t_same (m + 2048) m (omega arith)

pub half_turn_negates : HalfTurnNegates
unfolding t_at
half_turn_negates m =
    let e : m + 1024 + 1536 ≡ m + 1536 + 1024 = omega arith in
    pair (cosine_negates m) (ap cosine e ∙ cosine_negates (m + 1536))

back : (x y : ℤ) → y ≡ neg_ℤ x → x ≡ neg_ℤ y
back x y e = omega (arith, ints, e)

pub quarter_turn_is_j : QuarterTurnIsJ
unfolding t_at
quarter_turn_is_j m =
    let e : m + 1536 ≡ m + 512 + 1024 = omega arith in
    pair (back (cosine (m + 512)) (cosine (m + 1536)) (ap cosine e ∙ cosine_negates (m + 512)))
    (cosine_same (m + 512 + 1536) m (omega arith))
