-- The group that carries a quadruplet.
use Rattle.std.proofs.Common.{ℕ, ◌<◌, ◌≤◌, ◌≡◌, ◌⊎◌, inl, inr, Bool, false, nat_eq, get_or, ap, sym, ◌∙◌, zero-add, arith}
use Rattle.std.specs.List.{range_with_len}
use Rattle.std.proofs.lemmas.Bool.{cases_lt, eq-eqb, eqb-true, false≢true}
use Rattle.std.proofs.lemmas.List.FromFn.{length-range_with_len, get_or-range_with_len}
use Rattle.std.proofs.lemmas.List.Sums.{position_or_len_is, fails_before_first, passes_at_first}
use Rattle.grid_map.specs.Control.{quadruplet_at}
use Rattle.grid_map.proofs.Quadruplets.{quadruplet_each}
use Rattle.grid_map.specs.Candidate.{group_of_quadruplet}

abbrev carries : ℕ → ℕ → ℕ → ℕ → Bool
carries identity count q r = nat_eq (quadruplet_at identity count r) q

number_at : (count r : ℕ) → r < count → get_or (range_with_len 0 count) r 0 ≡ r
number_at count r l = get_or-range_with_len 0 count r 0 l ∙ zero-add r

-- the first group that carries quadruplet q is the result
pub group_is_first : (identity count q r : ℕ) → r < count → ((k : ℕ) → k < r → carries identity count q k ≡ false) →
    quadruplet_at identity count r ≡ q → group_of_quadruplet identity count q ≡ r
unfolding group_of_quadruplet
group_is_first identity count q r l before here =
    position_or_len_is (carries identity count q) (range_with_len 0 count) r 0
    (let long = length-range_with_len 0 count in omega (arith, long, l))
    (λ k m. ap (carries identity count q) (number_at count k (omega (arith, l, m))) ∙ before k m)
    (λ inside. ap (carries identity count q) (number_at count r l) ∙ eq-eqb _ _ here)

-- some group carries quadruplet q
pub some_group : (identity count q r : ℕ) → q < count → count ≤ r → ((k : ℕ) → k < r → carries identity count q k ≡ false) → ⊥
some_group identity count q r l past none =
    let (k, below, here) = quadruplet_each identity count q l in
    false≢true (sym (none k (omega (arith, below, past))) ∙ eq-eqb _ _ here)

pub group_inside : (identity count q : ℕ) → q < count → group_of_quadruplet identity count q < count
unfolding group_of_quadruplet
group_inside identity count q l = cases (cases_lt (group_of_quadruplet identity count q) count)
  where
    cases : (group_of_quadruplet identity count q < count) ⊎ (count ≤ group_of_quadruplet identity count q) → group_of_quadruplet identity count q < count
    cases (inl inside) = inside
    cases (inr past) =
        absurd (some_group identity count q count l (omega arith)
        (λ k m. sym (ap (carries identity count q) (number_at count k m))
        ∙ fails_before_first (carries identity count q) (range_with_len 0 count) k 0 (omega (arith, past, m))))

pub group_carries : (identity count q : ℕ) → q < count → quadruplet_at identity count (group_of_quadruplet identity count q) ≡ q
unfolding group_of_quadruplet
group_carries identity count q l =
    let inside = group_inside identity count q l in
    let long = length-range_with_len 0 count in
    let passes = passes_at_first (carries identity count q) (range_with_len 0 count) 0 (omega (arith, inside, long)) in
    eqb-true _ _ (sym (ap (carries identity count q) (number_at count (group_of_quadruplet identity count q) inside)) ∙ passes)
