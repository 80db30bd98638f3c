-- A grant's transport block is too large exactly if it has more than 1,000 bits: the sizes are those of three lists.
use Rattle.std.proofs.Common.{◌≡◌, ◌↔◌, ℕ, ◌+◌, ◌<◌, ◌≤◌, inl, inr, Bool, true, false, not, cond, nat_le, nat_lt, if◌then◌else◌, List, length, get_or, Option, None, Some, is_some, Ok, Err, refl, sym, subst, ◌∙◌, arith}
use Rattle.std.specs.List.{list_all}
use Rattle.std.proofs.lemmas.Bool.{true≢false, ltb-false, leb-true, leb-false}
use Rattle.std.proofs.lemmas.List.Folds.{list_all_at}
use Rattle.std.proofs.lemmas.Option.{none-some}
use Rattle.cs_bits.specs.Numbers.{field}
use Rattle.cs_bits.proofs.Numbers.{field_below}
use Rattle.dci.specs.Fields.{bit}
use Rattle.dci.specs.Sizes.{column_2, column_3}
use Rattle.turbo_code.specs.declared.rows.Row.{Row}
use Rattle.turbo_code.specs.Table.{rows, further_rows}
use Rattle.wide_grant.specs.declared.grant.WideGrant.{WideGrant}
use Rattle.wide_grant.specs.declared.grant.Refusal.TheVariants.{NotFormat1A, BadAllocation, ReservedMcs}
use Rattle.wide_grant.specs.Sizes.{sizes_1a, sizes_1c, size_1a, size_1c}
use Rattle.wide_grant.specs.Grants.{has_run_1a, mcs_1a, width_1a, value_1c, gap_bits, width_1c, has_second_gap, steps}
use Rattle.wide_grant.specs.Runs.{run_count}
use Rattle.wide_block.specs.Sums.{row_for}
use Rattle.wide_block.specs.Laws.{LargeIsOver1000}

-- ---- the lists of sizes

-- whether a size has a row if it is at most 1,000, and no row if it is more
fits : ℕ → Bool
fits size = cond (nat_le size 1000) (is_some (row_for size)) (not (is_some (row_for size)))

long_fit : (low : Bool) → list_all fits (sizes_1a low) ≡ true
unfolding fits row_for rows further_rows sizes_1a column_2 column_3
long_fit true = refl
long_fit false = refl

short_fit : list_all fits sizes_1c ≡ true
unfolding fits row_for rows further_rows sizes_1c
short_fit = refl

long_count : (low : Bool) → length (sizes_1a low) ≡ 27
unfolding sizes_1a column_2 column_3
long_count true = refl
long_count false = refl

short_count : length sizes_1c ≡ 32
unfolding sizes_1c
short_count = refl

-- an item of a list passes a test that all items pass
passed : (test : ℕ → Bool) (xs : List ℕ) (i d : ℕ) → list_all test xs ≡ true → i < length xs → test (get_or xs i d) ≡ true
passed test xs i d all inside = settle (test (get_or xs i d)) refl
  where
    settle : (b : Bool) → test (get_or xs i d) ≡ b → test (get_or xs i d) ≡ true
    settle true e = e
    settle false e = absurd (true≢false (sym all ∙ list_all_at test xs i d inside e))

long_size_fits : (low : Bool) (mcs : ℕ) → mcs ≤ 26 → fits (size_1a low mcs) ≡ true
long_size_fits low mcs few =
    let count = long_count low in passed fits (sizes_1a low) mcs 0 (long_fit low) (omega (arith, count, few))

short_size_fits : (index : ℕ) → index < 32 → fits (size_1c index) ≡ true
short_size_fits index few =
    let count = short_count in passed fits sizes_1c index 0 short_fit (omega (arith, count, few))

-- ---- a size that fits is too large exactly above 1,000

if_it_fits : (size : ℕ) → fits size ≡ true → (row_for size ≡ None) ↔ (1000 < size)
unfolding fits
if_it_fits size e = settle (nat_le size 1000) (row_for size) refl refl e
  where
    settle : (small : Bool) (found : Option Row) → nat_le size 1000 ≡ small → row_for size ≡ found →
        cond small (is_some found) (not (is_some found)) ≡ true → (row_for size ≡ None) ↔ (1000 < size)
    settle true (Some row) small is e =
        let few = leb-true size 1000 small in
        (λ none. absurd (none-some row (sym none ∙ is)), λ many. absurd (omega (arith, few, many)))
    settle true None small is e = absurd cc
    settle false (Some row) small is e = absurd cc
    settle false None small is e = let many = leb-false size 1000 small in (λ none. omega (arith, many), λ _. is)

-- ---- the grants

given_1a : (other bad reserved : Bool) (grant given : WideGrant) →
    (if other then Err NotFormat1A else (if bad then Err BadAllocation else (if reserved then Err ReservedMcs else Ok grant))) ≡ Ok given →
    (reserved ≡ false) × (grant ≡ given)
given_1a true bad reserved grant given e = absurd cc
given_1a false true reserved grant given e = absurd cc
given_1a false false true grant given e = absurd cc
given_1a false false false grant given e = (refl, cc)

given_1c : (bad : Bool) (grant given : WideGrant) → (if bad then Err BadAllocation else Ok grant) ≡ Ok given → grant ≡ given
given_1c true grant given e = absurd cc
given_1c false grant given e = cc

pub large_is_over_1000 : LargeIsOver1000
large_is_over_1000 grant (inl (blocks, bits, e)) =
    let (fine, is) = given_1a (not (bit bits 0)) (not (has_run_1a blocks bits)) (nat_lt 26 (mcs_1a blocks bits)) _ grant e in
    let few = ltb-false 26 (mcs_1a blocks bits) fine in
    subst (λ (g : WideGrant). (row_for g.size ≡ None) ↔ (1000 < g.size)) is
    (if_it_fits (size_1a (bit bits (14 + width_1a blocks)) (mcs_1a blocks bits)) (long_size_fits (bit bits (14 + width_1a blocks)) (mcs_1a blocks bits) (omega (arith, few))))
large_is_over_1000 grant (inr (blocks, sfn, bits, e)) =
    let is = given_1c (not (nat_lt (value_1c blocks bits) (run_count (steps blocks (has_second_gap blocks bits))))) _ grant e in
    let few = field_below bits (gap_bits blocks + width_1c blocks) 5 in
    subst (λ (g : WideGrant). (row_for g.size ≡ None) ↔ (1000 < g.size)) is
    (if_it_fits (size_1c (field bits (gap_bits blocks + width_1c blocks) 5)) (short_size_fits (field bits (gap_bits blocks + width_1c blocks) 5) (omega (arith, few))))
