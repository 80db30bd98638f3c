-- How long a recording is once it has been halved.
use Rattle.std.proofs.Common.{◌≡◌, ℕ, zero, suc, ◌+◌, ◌*◌, ◌/◌, ◌^◌, ◌≤◌, arith, refl, List, length, ap, add-one, pow-suc}
use Rattle.finite.proofs.Lists.{values_below-length}
use Rattle.cs_num.specs.declared.Sample.{Sample}
use Rattle.halving.specs.Halved.{halved_at, halved, halved_by}
use Rattle.halving.specs.Wide.{Wide, IsWide, most_kept, narrowed}
use Rattle.lte_types.specs.Numerology.{least_samples}

pub halved-length : (samples : List Sample) → length (halved samples) ≡ length samples / 2
unfolding halved
halved-length samples = values_below-length (length samples / 2) (halved_at samples)

pub halved_none : (samples : List Sample) → halved_by 0 samples ≡ samples
unfolding halved_by
halved_none samples = refl

pub halved_more : (n : ℕ) (samples : List Sample) → halved_by (n + 1) samples ≡ halved (halved_by n samples)
unfolding halved_by
halved_more n samples = rw add-one refl

-- bounds on the length are halved as often as the recording
pub halved_by-between : (n a b : ℕ) (samples : List Sample) → a * 2 ^ n ≤ length samples → length samples ≤ b * 2 ^ n →
    (a ≤ length (halved_by n samples)) × (length (halved_by n samples) ≤ b)
unfolding halved_by
halved_by-between zero a b samples low high = (omega (arith, low), omega (arith, high))
halved_by-between (suc n) a b samples low high =
    let double : 2 ^ suc n ≡ 2 * 2 ^ n = omega (arith, pow-suc 2 n) in
    let low' : 2 * a * 2 ^ n ≤ length samples = omega (arith, low, ap (λ p. a * p) double) in
    let high' : length samples ≤ 2 * b * 2 ^ n = omega (arith, high, ap (λ p. b * p) double) in
    let before = halved_by-between n (2 * a) (2 * b) samples low' high' in
    let e = halved-length (halved_by n samples) in
    (omega (arith, before.0, e), omega (arith, before.1, e))

-- a wide recording at 1.92 million samples per second is long enough for a recording
pub narrowed_between : (wide : Wide) → IsWide wide → (least_samples ≤ length (narrowed wide)) × (length (narrowed wide) ≤ most_kept)
narrowed_between wide valid = halved_by-between wide.rate least_samples most_kept wide.samples valid.least valid.most
