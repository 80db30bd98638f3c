-- The signals' grids, and the signals computed from lists that hold the grids.
use Rattle.std.proofs.Common.{◌≡◌, ℕ, ◌-◌, arith, sym, subst, Bool, true, false, nat_lt}
use Rattle.std.specs.Prelude.{All, if◌then◌else◌}
use Rattle.finite.specs.Lists.{values_below}
use Rattle.finite.proofs.Lists.{values_below_at, values_below_same}
use Rattle.cs_num.specs.Complex.{IsWithin, nothing, value_at}
use Rattle.fold128.specs.Symbol.{useful_at, useful_part}
use Rattle.fold128.proofs.Samples.{useful_same}
use Rattle.sync_seq.specs.Primary.{pss_at}
use Rattle.sync_seq.proofs.PrimaryValues.{pss-within}
use Rattle.pss_search.specs.Correlation.{pss_grid, wave_list}

pub grid-within : (n2 k : ℕ) → IsWithin 127 (pss_grid n2 k)
grid-within n2 k = first (nat_lt k 5)
  where
    nothing-within : IsWithin 127 nothing
    nothing-within = record { re = omega arith; im = omega arith }

    second : (b : Bool) → IsWithin 127 (if b then pss_at n2 (k - 5) else nothing)
    second true = pss-within n2 (k - 5)
    second false = nothing-within

    first : (b : Bool) → IsWithin 127 (if b then nothing else if nat_lt k 67 then pss_at n2 (k - 5) else nothing)
    first true = nothing-within
    first false = second (nat_lt k 67)

-- a list that holds the grid gives the signal
pub wave_from : (n2 : ℕ) → useful_part (value_at (values_below 72 (pss_grid n2))) ≡ wave_list n2
unfolding useful_part
wave_from n2 = values_below_same 128 (useful_at (value_at (values_below 72 (pss_grid n2)))) (useful_at (pss_grid n2))
    (λ n l. useful_same (value_at (values_below 72 (pss_grid n2))) (pss_grid n2) n (λ k j. values_below_at (pss_grid n2) 72 k nothing j))

pub grid-all_within : (n2 : ℕ) → All (IsWithin 127) (values_below 72 (pss_grid n2))
grid-all_within n2 k d l = subst (IsWithin 127) (sym (values_below_at (pss_grid n2) 72 k d l)) (grid-within n2 k)
