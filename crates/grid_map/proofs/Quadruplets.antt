-- Quadruplet interleaving: the groups reach each position in the interleaved order once.
use Rattle.std.proofs.Common.{◌≡◌, ℕ, ◌+◌, ◌-◌, ◌*◌, ◌/◌, ◌%◌, ◌<◌, ◌≤◌, get_or, ap, sym, ◌∙◌, ◌⊎◌, inl, inr, arith}
use Rattle.std.proofs.lemmas.Bool.{cases_lt}
use Rattle.std.proofs.lemmas.Nat.{mod-mul-add, mul-le}
use Rattle.conv_code.specs.Reading.{stream_order}
use Rattle.conv_code.proofs.Orders.{index_of, is_order}
use Rattle.grid_map.specs.Control.{quadruplet_at}

-- two multiples of n that differ by less than n are equal
multiples_apart : (n a b d : ℕ) → d < n → n * a + d ≡ n * b → a ≡ b
multiples_apart n a b d l e = cases (cases_lt a b) (cases_lt b a)
  where
    cases : (a < b) ⊎ (b ≤ a) → (b < a) ⊎ (a ≤ b) → a ≡ b
    cases (inl below) q = absurd (let more : n * (a + 1) ≤ n * b = mul-le n (a + 1) n b (omega arith) (omega arith) in let sum : n * (a + 1) ≡ n * a + n = omega arith in omega (arith, more, sum))
    cases (inr h) (inl below) = absurd (let more : n * (b + 1) ≤ n * a = mul-le n (b + 1) n a (omega arith) (omega arith) in let sum : n * (b + 1) ≡ n * b + n = omega arith in omega (arith, more, sum))
    cases (inr h) (inr k) = omega (arith, h, k)

-- two numbers with equal remainders that differ by less than n are equal
not_below : (n x y : ℕ) → x % n ≡ y % n → y < x + n → x ≤ y → x ≡ y
not_below n x y e near order =
    let first : n * (x / n) + x % n ≡ x = omega arith in
    let second : n * (y / n) + y % n ≡ y = omega arith in
    let same : x / n ≡ y / n = multiples_apart n (x / n) (y / n) (y - x) (omega arith) (omega (arith, first, second, e, order)) in
    let products : n * (x / n) ≡ n * (y / n) = ap (λ q. n * q) same in
    omega (arith, first, second, e, products)

-- different groups reach different positions
shifts_apart : (identity count r s : ℕ) → r < count → s < count → (r + identity) % count ≡ (s + identity) % count → r ≡ s
shifts_apart identity count r s a b e = cases (cases_lt r s)
  where
    cases : (r < s) ⊎ (s ≤ r) → r ≡ s
    cases (inl l) = let same : r + identity ≡ s + identity = not_below count (r + identity) (s + identity) e (omega arith) (omega (arith, l)) in omega (arith, same)
    cases (inr l) = let same : s + identity ≡ r + identity = not_below count (s + identity) (r + identity) (sym e) (omega arith) (omega (arith, l)) in omega (arith, same)

-- each position is reached by a group
shift_of : (identity count p : ℕ) → p < count → (r : ℕ) × (r < count) × ((r + identity) % count ≡ p)
shift_of identity count p l = cases (cases_lt p (identity % count))
  where
    whole : count * (identity / count) + identity % count ≡ identity
    whole = omega arith

    cases : (p < identity % count) ⊎ (identity % count ≤ p) → (r : ℕ) × (r < count) × ((r + identity) % count ≡ p)
    cases (inl below) =
        let r : ℕ = p + count - identity % count in
        let rest : identity % count < count = omega arith in
        let is : r + identity ≡ (identity / count + 1) * count + p = omega (arith, whole, rest, below) in
        (r, omega (arith, below, rest), ap (λ n. n % count) is ∙ mod-mul-add (identity / count + 1) count p l)
    cases (inr above) =
        let r : ℕ = p - identity % count in
        let is : r + identity ≡ identity / count * count + p = omega (arith, whole, above) in
        (r, omega (arith, above), ap (λ n. n % count) is ∙ mod-mul-add (identity / count) count p l)

pub quadruplet_inside : (identity count r : ℕ) → r < count → quadruplet_at identity count r < count
unfolding quadruplet_at
quadruplet_inside identity count r l = (is_order count).inside ((r + identity) % count) (omega arith)

pub quadruplet_once : (identity count r s : ℕ) → r < count → s < count →
    quadruplet_at identity count r ≡ quadruplet_at identity count s → r ≡ s
unfolding quadruplet_at
quadruplet_once identity count r s a b same =
    let o = is_order count in
    let first : (r + identity) % count < count = omega arith in
    let second : (s + identity) % count < count = omega arith in
    shifts_apart identity count r s a b (sym (o.once _ first) ∙ ap (λ k. index_of k (stream_order count)) same ∙ o.once _ second)

pub quadruplet_each : (identity count q : ℕ) → q < count → (r : ℕ) × (r < count) × (quadruplet_at identity count r ≡ q)
unfolding quadruplet_at
quadruplet_each identity count q l =
    let o = is_order count in
    let (r, below, there) = shift_of identity count (index_of q (stream_order count)) (o.index_inside q l) in
    (r, below, ap (λ p. get_or (stream_order count) p 0) there ∙ o.each q l)
