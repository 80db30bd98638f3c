-- Scores of two demodulated symbols fit into 64 bits.
use Rattle.std.proofs.Common.{◌≡◌, ℕ, ◌+◌, ◌*◌, ◌<◌, ◌≤◌, length, arith, List, All, ℤ, pos, ◌+ℤ◌, ◌-ℤ◌, ◌*ℤ◌, slice_index_or}
use Rattle.std.specs.Prelude.{nat_abs, neg_ℤ}
use Rattle.std.proofs.lemmas.Int.{ints, unsigned_abs-mul}
use Rattle.std.proofs.lemmas.Nat.{mul-le}
use Rattle.std.proofs.lemmas.List.Elements.{All-get_or}
use Rattle.finite.specs.Sizes.{AllWithin}
use Rattle.finite.proofs.Integers.{abs-sum, product_within}
use Rattle.finite.proofs.Lists.{values_below-All}
use Rattle.finite.proofs.Ring.{var, same}
use Rattle.finite.proofs.Ring as ring
use Rattle.finite.proofs.Sums.{sum_below-within}
use Rattle.cs_num.specs.declared.Cpx.{Cpx}
use Rattle.cs_num.specs.Complex.{IsWithin, nothing, times, conjugate, value_at}
use Rattle.lte_types.specs.declared.frame.Half.{Half}
use Rattle.sync_seq.specs.Primary.{pss_at}
use Rattle.sync_seq.proofs.PrimaryValues.{pss-within}
use Rattle.sync_seq.specs.Secondary.{sss_at}
use Rattle.sync_seq.proofs.SecondaryValues.{sss-size}
use Rattle.sss_detect.specs.Scores.{agreement}
use Rattle.sss_detect.specs.Steps.{agreements_of, score_by}

-- a sum of two products, bounded by the sum of two factors' magnitudes
both_within : (x y s t : ℤ) (a n : ℕ) → nat_abs x ≤ a → nat_abs y ≤ a → nat_abs s + nat_abs t ≤ n → nat_abs (x *ℤ s +ℤ y *ℤ t) ≤ a * n
both_within x y s t a n p q e =
    let xs = product_within x s a (nat_abs s) (a * nat_abs s) p (omega arith) (omega arith) in
    let yt = product_within y t a (nat_abs t) (a * nat_abs t) q (omega arith) (omega arith) in
    let both = mul-le a (nat_abs s + nat_abs t) a n (omega arith) e in
    omega (arith, xs, yt, both, abs-sum (x *ℤ s) (y *ℤ t))

-- the sum of both components when a number is multiplied by another's conjugate
turned_sum : (x y s t : ℤ) → (x *ℤ s -ℤ y *ℤ neg_ℤ t) +ℤ (x *ℤ neg_ℤ t +ℤ y *ℤ s) ≡ x *ℤ (s -ℤ t) +ℤ y *ℤ (s +ℤ t)
turned_sum x y s t = same
    (ring.plus (ring.minus (ring.times (var x) (var s)) (ring.times (var y) (ring.minus_one (var t)))) (ring.plus (ring.times (var x) (ring.minus_one (var t))) (ring.times (var y) (var s))))
    (ring.plus (ring.times (var x) (ring.minus (var s) (var t))) (ring.times (var y) (ring.plus (var s) (var t)))) (omega arith)

turned_difference : (x y s t : ℤ) → (x *ℤ s -ℤ y *ℤ neg_ℤ t) -ℤ (x *ℤ neg_ℤ t +ℤ y *ℤ s) ≡ x *ℤ (s +ℤ t) +ℤ y *ℤ (t -ℤ s)
turned_difference x y s t = same
    (ring.minus (ring.minus (ring.times (var x) (var s)) (ring.times (var y) (ring.minus_one (var t)))) (ring.plus (ring.times (var x) (ring.minus_one (var t))) (ring.times (var y) (var s))))
    (ring.plus (ring.times (var x) (ring.plus (var s) (var t))) (ring.times (var y) (ring.minus (var t) (var s)))) (omega arith)

from_both : (x y u v : ℤ) (n : ℕ) → x +ℤ y ≡ u → x -ℤ y ≡ v → nat_abs u ≤ n → nat_abs v ≤ n → nat_abs x + nat_abs y ≤ n
from_both x y u v n e g p q = omega (arith, ints, e, g, p, q)

channel_sizes : (a value : Cpx) (m n : ℕ) → IsWithin m a → IsWithin n value → nat_abs (times a (conjugate value)).re + nat_abs (times a (conjugate value)).im ≤ m * (2 * n)
channel_sizes a value m n p q =
    let x = a.re in
    let y = a.im in
    let s = value.re in
    let t = value.im in
    from_both (x *ℤ s -ℤ y *ℤ neg_ℤ t) (x *ℤ neg_ℤ t +ℤ y *ℤ s) (x *ℤ (s -ℤ t) +ℤ y *ℤ (s +ℤ t)) (x *ℤ (s +ℤ t) +ℤ y *ℤ (t -ℤ s)) (m * (2 * n)) (turned_sum x y s t) (turned_difference x y s t)
    (both_within x y (s -ℤ t) (s +ℤ t) m (2 * n) p.re p.im (omega (arith, ints, q.re, q.im)))
    (both_within x y (s +ℤ t) (t -ℤ s) m (2 * n) p.re p.im (omega (arith, ints, q.re, q.im)))

real_part : (x y s t : ℤ) → x *ℤ s -ℤ y *ℤ neg_ℤ t ≡ x *ℤ s +ℤ y *ℤ t
real_part x y s t = same (ring.minus (ring.times (var x) (var s)) (ring.times (var y) (ring.minus_one (var t)))) (ring.plus (ring.times (var x) (var s)) (ring.times (var y) (var t))) (omega arith)

-- an agreement is smaller than the bounds on the components imply
agreement-small : (primary secondary value : Cpx) (m n : ℕ) → IsWithin m primary → IsWithin m secondary → IsWithin n value →
    nat_abs (times secondary (conjugate (times primary (conjugate value)))).re ≤ m * (m * (2 * n))
agreement-small primary secondary value m n p s v =
    let c = times primary (conjugate value) in
    rw (real_part secondary.re secondary.im c.re c.im) (both_within secondary.re secondary.im c.re c.im m (m * (2 * n)) s.re s.im (channel_sizes primary value m n p v))

within_at : (values : List Cpx) (k : ℕ) → length values ≡ 72 → k < 72 → All (IsWithin 23726080) values → IsWithin 23726080 (value_at values k)
within_at values k long below small = All-get_or (IsWithin 23726080) values k nothing (omega (arith, long, below)) small

-- agreements are within 254 times the square of 23,726,080
pub agreements-small : (primary secondary : List Cpx) (n2 : ℕ) → length primary ≡ 72 → length secondary ≡ 72 → All (IsWithin 23726080) primary → All (IsWithin 23726080) secondary →
    AllWithin 142983425530265600 (agreements_of (value_at primary) (value_at secondary) n2)
unfolding agreements_of
agreements-small primary secondary n2 long wide p s =
    values_below-All (λ (x : ℤ). nat_abs x ≤ 142983425530265600) 62 (agreement (value_at primary) (value_at secondary) n2) (pos 0)
    (λ n below. let each = agreement-small (value_at primary (n + 5)) (value_at secondary (n + 5)) (pss_at n2 n) 23726080 127
    (within_at primary (n + 5) long (omega (arith, below)) p) (within_at secondary (n + 5) wide (omega (arith, below)) s) (pss-within n2 n) in omega (arith, each))

pub score-small : (agreements : List ℤ) (n2 n1 : ℕ) (half : Half) → length agreements ≡ 62 → AllWithin 142983425530265600 agreements →
    nat_abs (score_by agreements n2 n1 half) ≤ 8864972382876467200
unfolding score_by
score-small agreements n2 n1 half long small =
    let sum = sum_below-within 62 142983425530265600 (λ n. sss_at n1 n2 half n *ℤ slice_index_or agreements n (pos 0)) (λ n below.
    let sign = sss-size n1 n2 half n in
    let less = All-get_or (λ (x : ℤ). nat_abs x ≤ 142983425530265600) agreements n (pos 0) (omega (arith, below, long)) small in
    rw (unsigned_abs-mul (sss_at n1 n2 half n) (slice_index_or agreements n (pos 0)), sign) (omega (arith, less))) in
    omega (arith, sum)
