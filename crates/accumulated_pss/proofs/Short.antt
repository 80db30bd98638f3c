-- A row has at most 64 candidates: two maxima do not have the same rank.
use Rattle.std.proofs.Common.{◌≡◌, inl, inr, ℕ, zero, suc, ◌+◌, ◌<◌, ◌≤◌, List, true, filter, length, nat_lt, nat_eq, arith, eqb-true, get_or}
use Rattle.std.specs.List.{Contains}
use Rattle.std.proofs.lemmas.List.Elements.{Contains-get_or}
use Rattle.accumulated_pss.specs.Maxima.{precedes, rank, maxima, candidates}
use Rattle.accumulated_pss.specs.Laws.{ListIsShort}
use Rattle.accumulated_pss.proofs.Kept.{filter-strictly_fewer, filter-once, filter-up_to, filter-empty}
use Rattle.accumulated_pss.proofs.Order.{precedes-itself, precedes-on, precedes-either}
use Rattle.accumulated_pss.proofs.Listed.{maxima_in_order}

-- what precedes has a lower rank
lower : (row : List ℕ) (t u : ℕ) → Contains (maxima row) t → precedes row t u ≡ true → rank row t < rank row u
lower row t u inside first =
    filter-strictly_fewer (λ v. precedes row v t) (λ v. precedes row v u) (maxima row) t
    (λ v there before. precedes-on row v t u before first) inside (precedes-itself row t) first

-- two maxima have two ranks
differ : (row : List ℕ) (t u n : ℕ) → Contains (maxima row) t → Contains (maxima row) u → t < u → rank row t ≡ n → rank row u ≡ n → ⊥
differ row t u n a b l p q = elim (precedes-either row t u l) [
  | inl first ↦ (let lt = lower row t u a first in omega (arith, lt, p, q))
  | inr last ↦ (let lt = lower row u t b last in omega (arith, lt, p, q))
]

at_once : (row : List ℕ) (n : ℕ) → length (filter (λ t. nat_eq (rank row t) n) (maxima row)) ≤ 1
at_once row n =
    filter-once (λ t. nat_eq (rank row t) n) (maxima row)
    (λ i j d below inside p q.
    differ row (get_or (maxima row) i d) (get_or (maxima row) j d) n (Contains-get_or (maxima row) i d (omega (arith, below, inside))) (Contains-get_or (maxima row) j d inside)
    (maxima_in_order row i j d below inside) (eqb-true _ n p) (eqb-true _ n q))

up_to : (row : List ℕ) (n : ℕ) → length (filter (λ t. nat_lt (rank row t) n) (maxima row)) ≤ n
up_to row zero = let none = filter-empty (rank row) (maxima row) in omega (arith, none)
up_to row (suc n) =
    let e : suc n ≡ n + 1 = omega arith in
    let before = up_to row n in
    let once = at_once row n in
    let sum = filter-up_to (rank row) n (maxima row) in
    rw e (omega (arith, before, once, sum))

pub list_is_short : ListIsShort
unfolding candidates
list_is_short row = up_to row 64
