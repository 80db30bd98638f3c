-- The list has exactly the candidates, in order, and all are positions.
use Rattle.std.proofs.Common.{◌≡◌, ℕ, ◌+◌, ◌-◌, ◌<◌, ◌≤◌, List, length, nat_lt, arith, sym, subst, ◌∙◌}
use Rattle.std.specs.List.{All, AllPairs, Contains}
use Rattle.std.proofs.lemmas.Bool.{ltb-true, lt-ltb}
use Rattle.std.proofs.lemmas.List.Elements.{All-contains, All-filter, Contains-get_or}
use Rattle.std.proofs.lemmas.List.Kept.{AllPairs-filter}
use Rattle.finite.specs.Lists.{values_below}
use Rattle.finite.proofs.Lists.{values_below-length, values_below_at, values_below-All}
use Rattle.accumulated_pss.specs.Sums.{IsPosition}
use Rattle.accumulated_pss.specs.Tests.{is_maximum}
use Rattle.accumulated_pss.specs.Maxima.{IsMaximum, IsCandidate, rank, maxima, candidates}
use Rattle.accumulated_pss.specs.Laws.{ListIsRight, ListIsInOrder, CandidatesAreApart}
use Rattle.accumulated_pss.proofs.RightTest.{to_maximum, from_maximum, maxima_apart}
use Rattle.accumulated_pss.proofs.Kept.{filter-passes, filter-inside, filter-keeps}

abbrev all : List ℕ
all = values_below 9600 (λ i. 137 + i)

all_positions : All IsPosition all
all_positions = values_below-All IsPosition 9600 (λ i. 137 + i) 0 (λ i l. record { from_first = omega arith; to_last = omega (arith, l) })

all_in_order : AllPairs ◌<◌ all
all_in_order i j d below inside =
    let size = values_below-length 9600 (λ i. 137 + i) in
    let a = values_below_at (λ i. 137 + i) 9600 i d (omega (arith, size, inside, below)) in
    let b = values_below_at (λ i. 137 + i) 9600 j d (omega (arith, size, inside)) in
    rw (a, b) (omega (arith, below))

shifted : (t : ℕ) → 137 ≤ t → 137 + (t - 137) ≡ t
shifted t low = omega (arith, low)

below_count : (t : ℕ) → 137 ≤ t → t ≤ 9736 → t - 137 < 9600
below_count t low high = omega (arith, low, high)

in_all : (t : ℕ) → IsPosition t → Contains all t
in_all t p =
    let l = below_count t p.from_first p.to_last in
    let inside : t - 137 < length all = subst (λ n. t - 137 < n) (sym (values_below-length 9600 (λ i. 137 + i))) l in
    subst (Contains all) (values_below_at (λ i. 137 + i) 9600 (t - 137) 0 l ∙ shifted t p.from_first) (Contains-get_or all (t - 137) 0 inside)

-- ---- maxima

pub maxima_are_positions : (row : List ℕ) → All IsPosition (maxima row)
unfolding maxima
maxima_are_positions row = All-filter (is_maximum row) IsPosition all all_positions

pub maxima_in_order : (row : List ℕ) → AllPairs ◌<◌ (maxima row)
unfolding maxima
maxima_in_order row = AllPairs-filter ◌<◌ (is_maximum row) all all_in_order

maxima_has : (row : List ℕ) (t : ℕ) → IsMaximum row t → Contains (maxima row) t
unfolding maxima
maxima_has row t is = filter-keeps (is_maximum row) all t (in_all t is.position) (from_maximum row t is)

has_maximum : (row : List ℕ) (t : ℕ) → Contains (maxima row) t → IsMaximum row t
unfolding maxima
has_maximum row t h =
    let p = All-contains IsPosition all t all_positions (filter-inside (is_maximum row) all t h) in
    to_maximum row t p (filter-passes (is_maximum row) all t h)

-- ---- candidates

pub candidates_are_positions : (row : List ℕ) → All IsPosition (candidates row)
unfolding candidates
candidates_are_positions row = All-filter (λ t. nat_lt (rank row t) 64) IsPosition (maxima row) (maxima_are_positions row)

pub list_is_in_order : ListIsInOrder
unfolding candidates
list_is_in_order row = AllPairs-filter ◌<◌ (λ t. nat_lt (rank row t) 64) (maxima row) (maxima_in_order row)

listed_is : (row : List ℕ) (t : ℕ) → Contains (candidates row) t → IsCandidate row t
unfolding candidates
listed_is row t h = record {
  maximum = has_maximum row t (filter-inside (λ u. nat_lt (rank row u) 64) (maxima row) t h);
  rank = ltb-true (rank row t) 64 (filter-passes (λ u. nat_lt (rank row u) 64) (maxima row) t h);
}

is_listed : (row : List ℕ) (t : ℕ) → IsCandidate row t → Contains (candidates row) t
unfolding candidates
is_listed row t is = filter-keeps (λ u. nat_lt (rank row u) 64) (maxima row) t (maxima_has row t is.maximum) (lt-ltb (rank row t) 64 is.rank)

pub list_is_right : ListIsRight
list_is_right row t = (listed_is row t, is_listed row t)

pub candidates_are_apart : CandidatesAreApart
candidates_are_apart row t u is other differ = maxima_apart row t u is.maximum other.maximum differ
