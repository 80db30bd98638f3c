-- Tables of sums that grow by one period at a time.
use Rattle.std.proofs.Common.{◌≡◌, ℕ, ◌+◌, ◌<◌, ◌≤◌, Bool, true, false, List, [], get_or, replicate, ℤ, pos, ◌+ℤ◌, nat_abs, arith, refl, ap, ap₂, sym, ◌∙◌}
use Rattle.std.proofs.lemmas.Int.{ints}
use Rattle.finite.specs.Sizes.{AllWithin, RowsWithin}
use Rattle.finite.specs.Sums.{sum_below}
use Rattle.finite.specs.Lists.{values_below}
use Rattle.finite.specs.Tables.{sum_at}
use Rattle.finite.proofs.Sums.{sum_below_none, sum_below_more}
use Rattle.finite.proofs.Integers.{abs-sum}
use Rattle.finite.proofs.Items.{item_of_row-within, All-wider}
use Rattle.finite.proofs.Lists.{values_below_at, values_below_same, values_below-All}
use Rattle.conv_code.specs.Code.{coded_word}
use Rattle.added_master.specs.Sums.{table_of, bit_in, turned, change_word, counted_back, added_row, added_to}

pub table_at : (f : ℕ → ℕ → ℤ) (k t : ℕ) → k < 40 → t < 3 → sum_at (table_of f) k t ≡ f k t
table_at f k t l m = ap (λ row. get_or row t (pos 0)) (values_below_at (λ i. values_below 3 (f i)) 40 k [] l) ∙ values_below_at (f k) 3 t (pos 0) m

pub table_same : (f g : ℕ → ℕ → ℤ) → ((k t : ℕ) → k < 40 → t < 3 → f k t ≡ g k t) → table_of f ≡ table_of g
table_same f g h = values_below_same 40 (λ k. values_below 3 (f k)) (λ k. values_below 3 (g k)) (λ k l. values_below_same 3 (f k) (g k) (λ t m. h k t l m))

pub table-within : (n : ℕ) (f : ℕ → ℕ → ℤ) → ((k t : ℕ) → k < 40 → t < 3 → nat_abs (f k t) ≤ n) → RowsWithin n (table_of f)
table-within n f h =
    values_below-All (AllWithin n) 40 (λ k. values_below 3 (f k)) [] (λ k l. values_below-All (λ z. nat_abs z ≤ n) 3 (f k) (pos 0) (λ t m. h k t l m))

pub rows-wider : (m n : ℕ) (rows : List (List ℤ)) → m ≤ n → RowsWithin m rows → RowsWithin n rows
rows-wider m n rows order small k d inside = All-wider m n (get_or rows k d) order (small k d inside)

turned-size : (b : Bool) (z : ℤ) → nat_abs (turned b z) ≡ nat_abs z
turned-size true z = omega (arith, ints)
turned-size false z = refl

-- the sums of the first d periods
abbrev pub sums_so_far : ℕ → List (List (List ℤ)) → ℕ → List (List ℤ)
sums_so_far d sums upper = table_of (λ k t. sum_below d (counted_back sums upper k t))

pub no_sums : (sums : List (List (List ℤ))) (upper : ℕ) → replicate 40 (replicate 3 (pos 0)) ≡ sums_so_far 0 sums upper
no_sums sums upper = table_same (λ k t. pos 0) (λ k t. sum_below 0 (counted_back sums upper k t)) (λ k t l m. sym (sum_below_none (counted_back sums upper k t)))

pub more_sums : (d : ℕ) (sums : List (List (List ℤ))) (upper : ℕ) (added values : List (List ℤ)) (coded : List (List Bool)) → added ≡ sums_so_far d sums upper →
    values ≡ get_or sums d [] → coded ≡ coded_word (change_word upper d) → added_to added values coded ≡ sums_so_far (d + 1) sums upper
unfolding added_to
more_sums d sums upper added values coded e f g =
    table_same (λ k. added_row (get_or added k []) (get_or values k []) (get_or coded k [])) (λ k t. sum_below (d + 1) (counted_back sums upper k t))
    (λ k t l m. ap₂ ◌+ℤ◌
    (ap (λ (rows : List (List ℤ)). sum_at rows k t) e ∙ table_at (λ i s. sum_below d (counted_back sums upper i s)) k t l m)
    (ap₂ (λ (rows : List (List ℤ)) (bits : List (List Bool)). turned (bit_in bits k t) (sum_at rows k t)) f g)
    ∙ sym (sum_below_more d (counted_back sums upper k t)))

pub more-within : (n : ℕ) (added values : List (List ℤ)) (coded : List (List Bool)) → RowsWithin n added → RowsWithin 2032 values → RowsWithin (n + 2032) (added_to added values coded)
unfolding added_to
more-within n added values coded p q =
    table-within (n + 2032) (λ k. added_row (get_or added k []) (get_or values k []) (get_or coded k []))
    (λ k t l m. let a = item_of_row-within n added k t p in let b = item_of_row-within 2032 values k t q in
    let e = turned-size (bit_in coded k t) (sum_at values k t) in let s = abs-sum (sum_at added k t) (turned (bit_in coded k t) (sum_at values k t)) in omega (arith, a, b, e, s))
