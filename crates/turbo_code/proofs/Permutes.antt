-- Each row's interleaver is a permutation, by computation: three rounds of i := back (y - f2 i^2) invert it.
use Rattle.std.proofs.Common.{◌≡◌, ℕ, ◌+◌, ◌-◌, ◌*◌, ◌%◌, ◌<◌, Bool, true, false, inl, inr, List, [], ◌∷◌, length, get_or, refl, ap, subst, sym, ◌∙◌, arith, suc, zero, mod-lt}
use Rattle.std.specs.Prelude.{◌&&◌, nat_eq, nat_lt}
use Rattle.std.proofs.lemmas.Bool.{eqb-true, ltb-true, and_parts, false≢true}
use Rattle.finite.specs.Tests.{every_below}
use Rattle.finite.proofs.Tests.{every_below_at}
use Rattle.turbo_code.specs.declared.rows.Row.{Row}
use Rattle.turbo_code.specs.Table.{rows, further_rows, interleaver}
use Rattle.turbo_code.specs.Laws.{Permutes, RowsPermute}

-- each row's f1, inverted modulo K
backs : List ℕ
backs =
    3 ∷ 51 ∷ 35 ∷ 41 ∷ 111 ∷ 17 ∷ 5 ∷ 77 ∷ 101 ∷ 233 ∷ 87 ∷ 61 ∷ 285 ∷ 151 ∷ 233 ∷ 263 ∷
    329 ∷ 479 ∷ 497 ∷ 257 ∷ 493 ∷ 137 ∷ 617 ∷ 595 ∷ 319 ∷ 361 ∷ 753 ∷ 305 ∷ 495 ∷ 641 ∷ 991 ∷ []

-- each further row's f1, inverted modulo K
further_backs : List ℕ
further_backs = 55 ∷ 61 ∷ 189 ∷ 157 ∷ []

-- the index that the interleaver maps to y
index_back : Row → ℕ → ℕ → ℕ
index_back r back y =
    let a = (back * y) % r.k in
    let b = (back * (y + (r.k - r.f2) * (a * a))) % r.k in
    (back * (y + (r.k - r.f2) * (b * b))) % r.k

both_ways : Row → ℕ → ℕ → Bool
both_ways r back i = nat_eq (index_back r back (interleaver r i)) i && nat_eq (interleaver r (index_back r back i)) i

row_test : Row → ℕ → Bool
row_test r back = nat_lt 0 r.k && every_below r.k (both_ways r back)

-- each row passes the test with its inverse
rows_test : List Row → List ℕ → Bool
rows_test [] backs = true
rows_test (r ∷ rs) [] = false
rows_test (r ∷ rs) (b ∷ backs) = row_test r b && rows_test rs backs

tested : rows_test rows backs ≡ true
unfolding rows_test row_test both_ways interleaver index_back rows backs every_below
tested = refl

further_tested : rows_test further_rows further_backs ≡ true
unfolding rows_test row_test both_ways interleaver index_back further_rows further_backs every_below
further_tested = refl

row_passes : (rs : List Row) (backs : List ℕ) → rows_test rs backs ≡ true → (k : ℕ) (r : Row) → k < length rs → get_or rs k r ≡ r →
    (b : ℕ) × (row_test r b ≡ true)
unfolding rows_test
row_passes [] backs h k r l e = absurd (omega (arith, l))
row_passes (x ∷ xs) [] h k r l e = absurd (false≢true h)
row_passes (x ∷ xs) (b ∷ backs) h zero r l e = (b, subst (λ y. row_test y b ≡ true) e (and_parts (row_test x b) (rows_test xs backs) h).0)
row_passes (x ∷ xs) (b ∷ backs) h (suc k) r l e =
    row_passes xs backs (and_parts (row_test x b) (rows_test xs backs) h).1 k r (omega (arith, l)) e

permutes_by : (r : Row) (b : ℕ) → row_test r b ≡ true → Permutes r.k (interleaver r)
unfolding row_test both_ways
permutes_by r b h =
    let parts = and_parts (nat_lt 0 r.k) (every_below r.k (both_ways r b)) h in
    let some : 0 < r.k = ltb-true 0 r.k parts.0 in
    let at : (i : ℕ) → i < r.k → (nat_eq (index_back r b (interleaver r i)) i ≡ true) × (nat_eq (interleaver r (index_back r b i)) i ≡ true)
    = λ i l. and_parts (nat_eq (index_back r b (interleaver r i)) i) (nat_eq (interleaver r (index_back r b i)) i) (every_below_at r.k (both_ways r b) parts.1 i l) in
    record {
      below = λ i l. unfold interleaver in mod-lt (r.f1 * i + r.f2 * i * i) some;
      one_to_one = λ i j l m e. sym (eqb-true _ i (at i l).0) ∙ ap (index_back r b) e ∙ eqb-true _ j (at j m).0;
      onto = λ y l. (index_back r b y, (unfold index_back in mod-lt _ some), eqb-true _ y (at y l).1);
    }

pub all_permute : RowsPermute
all_permute r (inl (k, l, e)) = let (b, h) = row_passes rows backs tested k r l e in permutes_by r b h
all_permute r (inr (k, l, e)) = let (b, h) = row_passes further_rows further_backs further_tested k r l e in permutes_by r b h
