-- The length of a wide recording at 1.92 million samples per second, and the frames within it.
use Rattle.std.proofs.Common.{◌≡◌, ◌↔◌, ℕ, zero, suc, ◌+◌, ◌-◌, ◌*◌, ◌/◌, ◌%◌, ◌^◌, ◌<◌, ◌≤◌, min, List, length, arith, ap, pow-suc, mul-le-mul_left}
use Rattle.cs_num.specs.declared.Sample.{Sample}
use Rattle.halving.specs.Halved.{halved, halved_by}
use Rattle.halving.proofs.Lengths.{halved-length}
use Rattle.explain.specs.System.{IsTried}

-- a recording halved `rate` times
pub length-halved_by : (rate : ℕ) (samples : List Sample) → rate ≤ 4 → length (halved_by rate samples) ≡ length samples / 2 ^ rate
unfolding halved_by
length-halved_by zero s few = omega arith
length-halved_by (suc zero) s few = halved-length s
length-halved_by (suc (suc zero)) s few = let a = halved-length s in let b = halved-length (halved s) in omega (arith, a, b)
length-halved_by (suc (suc (suc zero))) s few =
    let a = halved-length s in let b = halved-length (halved s) in let c = halved-length (halved (halved s)) in omega (arith, a, b, c)
length-halved_by (suc (suc (suc (suc zero)))) s few =
    let a = halved-length s in let b = halved-length (halved s) in let c = halved-length (halved (halved s)) in
    let d = halved-length (halved (halved (halved s))) in omega (arith, a, b, c, d)
length-halved_by (suc (suc (suc (suc (suc n))))) s few = absurd (omega (arith, few))

-- each sample of a recording halved `rate` times stands for 2^rate samples
pub halved_fits : (rate : ℕ) (samples : List Sample) → 2 ^ rate * length (halved_by rate samples) ≤ length samples
unfolding halved_by
halved_fits zero s = omega arith
halved_fits (suc n) s =
    let before = halved_fits n s in
    let e = halved-length (halved_by n s) in
    let two : 2 * length (halved (halved_by n s)) ≤ length (halved_by n s) = omega (arith, e) in
    let more : 2 ^ n * (2 * length (halved (halved_by n s))) ≤ 2 ^ n * length (halved_by n s) = mul-le-mul_left (2 ^ n) two in
    let double : 2 ^ suc n ≡ 2 * 2 ^ n = omega (arith, pow-suc 2 n) in
    omega (arith, before, more, ap (λ p. p * length (halved (halved_by n s))) double)

-- a slot of a frame within the halved recording lies within the recording
pub slot_inside : (power frame number long many : ℕ) → number < 20 → frame + 19200 ≤ long → power * long ≤ many →
    power * (frame + 960 * number + 10 + 137 * 6) + 128 * power ≤ many
slot_inside power frame number long many slot whole inside =
    let end : power * (frame + 960 * number + 960) ≤ power * long = mul-le-mul_left power (omega (arith, slot, whole)) in
    omega (arith, end, inside)

-- the number of a cell's even-numbered frames that are tried
abbrev pub tried_count : ℕ → ℕ → ℕ → ℕ
tried_count long start sfn = min (((long - start) / 19200 + 1 - sfn % 2) / 2) 8

pub tried_below : (recording : List Sample) (start sfn i : ℕ) → (i < tried_count (length recording) start sfn) ↔ IsTried recording start sfn i
tried_below recording start sfn i = (
  (λ below. record { among = omega (arith, below); whole = omega (arith, below) }),
  (λ tried. let among = tried.among in let whole = tried.whole in omega (arith, among, whole)),
)
