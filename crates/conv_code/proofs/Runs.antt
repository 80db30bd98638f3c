-- Sums by position, for runs of values that are consecutive in one stream.
use Rattle.std.proofs.Common.{◌≡◌, ℕ, suc, zero, ◌+◌, ◌-◌, ◌*◌, ◌/◌, ◌%◌, ◌^◌, ◌<◌, ◌≤◌, List, get_or, replicate, ℤ, pos, nat_abs, refl, ap, sym, ◌∙◌, arith, div-add-mod'}
use Rattle.std.proofs.lemmas.Nat.{div-mul-add, mod-mul-add, mod_below}
use Rattle.std.proofs.Math.Nat.{div-lt_iff_lt-mul}
use Rattle.finite.specs.Tables.{sums_with}
use Rattle.finite.proofs.Tables.{AreSums, sums_none, sums_more}
use Rattle.conv_code.specs.Steps.{stream_of, place_of, placed_sum, HasPlacedSums}

-- the table holds the sums of the first m values, and its rows have length n
abbrev pub AreSumsOf : ℕ → ℕ → List ℤ → ℕ → List (List ℤ) → Type 0
AreSumsOf n first values m sums = AreSums 3 n (2 ^ 15) (λ i. stream_of n (first + i)) (λ i. place_of n (first + i)) values m sums

pub of_table : (n first : ℕ) (values : List ℤ) (m : ℕ) (sums : List (List ℤ)) → HasPlacedSums n first values m sums → AreSumsOf n first values m sums
unfolding placed_sum
of_table n first values m sums known = record { size = known.streams; row = known.places; at = known.sum; small = known.room }

pub to_table : (n first : ℕ) (values : List ℤ) (m : ℕ) (sums : List (List ℤ)) → AreSumsOf n first values m sums → HasPlacedSums n first values m sums
unfolding placed_sum
to_table n first values m sums known = record { streams = known.size; places = known.row; sum = known.at; room = known.small }

pub none_yet : (n first : ℕ) (values : List ℤ) → HasPlacedSums n first values 0 (replicate 3 (replicate n (pos 0)))
none_yet n first values = to_table n first values 0 _ (sums_none 3 n (2 ^ 15) _ _ values)

-- ---- consecutive output bits have consecutive positions in a stream

-- position p in stream t is below 3n, counted over all streams
below_three : (n t p : ℕ) → t < 3 → p < n → t * n + p < 3 * n
below_three n zero p h below = omega (arith, below)
below_three n (suc zero) p h below = omega (arith, below)
below_three n (suc (suc zero)) p h below = omega (arith, below)
below_three n (suc (suc (suc t))) p h below = absurd (omega (arith, h))

pub three_streams : (n x : ℕ) → 0 < n → stream_of n x < 3
three_streams n x some = (div-lt_iff_lt-mul some).1 (let h : x % (3 * n) < 3 * n = mod_below x (3 * n) (omega (arith, some)) in h)

pub next_bit : (n x d : ℕ) → 0 < n → place_of n x + d < n → (stream_of n (x + d) ≡ stream_of n x) × (place_of n (x + d) ≡ place_of n x + d)
next_bit n x d some inside =
    let b : ℕ = x % (3 * n) in
    let t = stream_of n x in
    let p = place_of n x in
    let whole : t * n + p ≡ b = div-add-mod' b n in
    let below : t * n + (p + d) < 3 * n = below_three n t (p + d) (three_streams n x some) inside in
    let all : x / (3 * n) * (3 * n) + b ≡ x = div-add-mod' x (3 * n) in
    let sum : x + d ≡ x / (3 * n) * (3 * n) + (t * n + (p + d)) = omega (arith, whole, all) in
    let e : (x + d) % (3 * n) ≡ t * n + (p + d) = ap (λ y. y % (3 * n)) sum ∙ mod-mul-add (x / (3 * n)) (3 * n) (t * n + (p + d)) below in (
      ap (λ y. y / n) e ∙ div-mul-add t n (p + d) inside,
      ap (λ y. y % n) e ∙ mod-mul-add t n (p + d) inside,
    )

-- one more value of a run that begins with value `at`
pub run_more : (n first : ℕ) (values : List ℤ) (at i : ℕ) (sums : List (List ℤ)) → 0 < n → at ≤ i → place_of n (first + at) + (i - at) < n →
    nat_abs (get_or values i (pos 0)) ≤ 2 ^ 15 → AreSumsOf n first values i sums →
    AreSumsOf n first values (i + 1) (sums_with sums (stream_of n (first + at)) (place_of n (first + at) + (i - at)) (get_or values i (pos 0)))
run_more n first values at i sums some after inside small known =
    let e : first + at + (i - at) ≡ first + i = omega (arith, after) in
    let next = rw e at (next_bit n (first + at) (i - at) some inside) in
    sums_more 3 n (2 ^ 15) (λ i. stream_of n (first + i)) (λ i. place_of n (first + i)) values i sums _ _ _ (sym next.0) (sym next.1)
    (three_streams n (first + at) some) inside refl small known
