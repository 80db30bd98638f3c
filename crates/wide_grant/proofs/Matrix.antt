-- The interleaver's formula follows its matrix, at each bandwidth and gap.
use Rattle.std.proofs.Common.{ℕ, ◌<◌, ◌≡◌, inl, inr, Bool, true, false, nat_eq, nat_lt, refl, sym, subst, arith}
use Rattle.std.specs.List.{position_or_len}
use Rattle.std.proofs.lemmas.Bool.{eqb-true, ltb-true}
use Rattle.finite.specs.Lists.{joined_below}
use Rattle.finite.specs.Tests.{every_below}
use Rattle.finite.proofs.Tests.{every_below_at}
use Rattle.wide_grant.specs.Distributed.{virtual_blocks, unit, rows, nulls, interleaved, physical}
use Rattle.wide_grant.specs.Laws.{HasGap, read_order}

-- ---- the matrix

unfoldable is_in_order : ℕ → Bool → ℕ → Bool
is_in_order blocks second v =
    nat_eq (position_or_len (nat_eq v) (read_order (rows blocks second) (nulls blocks second)))
    (interleaved (rows blocks second) (nulls blocks second) (unit blocks second) v)

abbrev AreInOrder : ℕ → Bool → Type 0
AreInOrder blocks second = every_below (unit blocks second) (is_in_order blocks second) ≡ true

order_6_first : AreInOrder 6 false
unfolding every_below is_in_order read_order joined_below
order_6_first = refl

order_15_first : AreInOrder 15 false
unfolding every_below is_in_order read_order joined_below
order_15_first = refl

order_25_first : AreInOrder 25 false
unfolding every_below is_in_order read_order joined_below
order_25_first = refl

order_50_first : AreInOrder 50 false
unfolding every_below is_in_order read_order joined_below
order_50_first = refl

order_75_first : AreInOrder 75 false
unfolding every_below is_in_order read_order joined_below
order_75_first = refl

order_100_first : AreInOrder 100 false
unfolding every_below is_in_order read_order joined_below
order_100_first = refl

order_50_second : AreInOrder 50 true
unfolding every_below is_in_order read_order joined_below
order_50_second = refl

order_75_second : AreInOrder 75 true
unfolding every_below is_in_order read_order joined_below
order_75_second = refl

order_100_second : AreInOrder 100 true
unfolding every_below is_in_order read_order joined_below
order_100_second = refl

-- ---- blocks of the cell

unfoldable is_inside : ℕ → Bool → Bool → ℕ → Bool
is_inside blocks second odd v = nat_lt (physical blocks second odd v) blocks

abbrev AreInside : ℕ → Bool → Bool → Type 0
AreInside blocks second odd = every_below (virtual_blocks blocks second) (is_inside blocks second odd) ≡ true

inside_6_first : (odd : Bool) → AreInside 6 false odd
unfolding every_below is_inside physical
inside_6_first false = refl
inside_6_first true = refl

inside_15_first : (odd : Bool) → AreInside 15 false odd
unfolding every_below is_inside physical
inside_15_first false = refl
inside_15_first true = refl

inside_25_first : (odd : Bool) → AreInside 25 false odd
unfolding every_below is_inside physical
inside_25_first false = refl
inside_25_first true = refl

inside_50_first : (odd : Bool) → AreInside 50 false odd
unfolding every_below is_inside physical
inside_50_first false = refl
inside_50_first true = refl

inside_75_first : (odd : Bool) → AreInside 75 false odd
unfolding every_below is_inside physical
inside_75_first false = refl
inside_75_first true = refl

inside_100_first : (odd : Bool) → AreInside 100 false odd
unfolding every_below is_inside physical
inside_100_first false = refl
inside_100_first true = refl

inside_50_second : (odd : Bool) → AreInside 50 true odd
unfolding every_below is_inside physical
inside_50_second false = refl
inside_50_second true = refl

inside_75_second : (odd : Bool) → AreInside 75 true odd
unfolding every_below is_inside physical
inside_75_second false = refl
inside_75_second true = refl

inside_100_second : (odd : Bool) → AreInside 100 true odd
unfolding every_below is_inside physical
inside_100_second false = refl
inside_100_second true = refl

-- ---- each bandwidth and gap

-- a property of each bandwidth's gaps
at_each : (P : ℕ → Bool → Type 0) → P 6 false → P 15 false → P 25 false → P 50 false → P 75 false → P 100 false →
    P 50 true → P 75 true → P 100 true → (blocks : ℕ) (second : Bool) → HasGap blocks second → P blocks second
at_each P a b c d e f g h i blocks false (inl is, has) = subst (λ n. P n false) (sym is) a
at_each P a b c d e f g h i blocks false (inr (inl is), has) = subst (λ n. P n false) (sym is) b
at_each P a b c d e f g h i blocks false (inr (inr (inl is)), has) = subst (λ n. P n false) (sym is) c
at_each P a b c d e f g h i blocks false (inr (inr (inr (inl is))), has) = subst (λ n. P n false) (sym is) d
at_each P a b c d e f g h i blocks false (inr (inr (inr (inr (inl is)))), has) = subst (λ n. P n false) (sym is) e
at_each P a b c d e f g h i blocks false (inr (inr (inr (inr (inr is)))), has) = subst (λ n. P n false) (sym is) f
at_each P a b c d e f g h i blocks true (inl is, has) = absurd (let enough = has refl in omega (arith, is, enough))
at_each P a b c d e f g h i blocks true (inr (inl is), has) = absurd (let enough = has refl in omega (arith, is, enough))
at_each P a b c d e f g h i blocks true (inr (inr (inl is)), has) = absurd (let enough = has refl in omega (arith, is, enough))
at_each P a b c d e f g h i blocks true (inr (inr (inr (inl is))), has) = subst (λ n. P n true) (sym is) g
at_each P a b c d e f g h i blocks true (inr (inr (inr (inr (inl is)))), has) = subst (λ n. P n true) (sym is) h
at_each P a b c d e f g h i blocks true (inr (inr (inr (inr (inr is)))), has) = subst (λ n. P n true) (sym is) i

pub matrix_order : (blocks : ℕ) (second : Bool) → HasGap blocks second → (v : ℕ) → v < unit blocks second →
    position_or_len (nat_eq v) (read_order (rows blocks second) (nulls blocks second))
    ≡ interleaved (rows blocks second) (nulls blocks second) (unit blocks second) v
unfolding is_in_order
matrix_order blocks second has v l =
    eqb-true _ _ (every_below_at (unit blocks second) (is_in_order blocks second)
    (at_each AreInOrder order_6_first order_15_first order_25_first order_50_first order_75_first order_100_first
    order_50_second order_75_second order_100_second blocks second has) v l)

pub inside_cell : (blocks : ℕ) (second odd : Bool) → HasGap blocks second → (v : ℕ) → v < virtual_blocks blocks second →
    physical blocks second odd v < blocks
unfolding is_inside
inside_cell blocks second odd has v l =
    ltb-true _ _ (every_below_at (virtual_blocks blocks second) (is_inside blocks second odd)
    (at_each (λ n b. AreInside n b odd) (inside_6_first odd) (inside_15_first odd) (inside_25_first odd) (inside_50_first odd)
    (inside_75_first odd) (inside_100_first odd) (inside_50_second odd) (inside_75_second odd) (inside_100_second odd)
    blocks second has) v l)
