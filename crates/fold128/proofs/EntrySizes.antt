-- The squared magnitudes of the tables' entries, computed over one period.
use Rattle.std.proofs.Common.{◌≡◌, ℕ, ◌*◌, ◌%◌, ◌<◌, ◌≤◌, Bool, true, arith, refl, nat_le}
use Rattle.std.proofs.lemmas.Bool.{leb-true}
use Rattle.finite.specs.Tests.{every_below}
use Rattle.finite.proofs.Tests.{every_below_at}
use Rattle.cs_num.specs.Complex.{square}
use Rattle.fold128.specs.Tables.{quarter, cosine, w_at, z_at, z_real, z_imaginary}
use Rattle.fold128.proofs.Entries.{w_period}
use Rattle.fold128.proofs.Laws.{z_period}

unfoldable short_small : ℕ → Bool
short_small m = nat_le (square (z_at m)) 16384

all_short_small : every_below 63 short_small ≡ true
unfolding z_real z_imaginary z_at short_small every_below
all_short_small = refl

pub z-square : (m : ℕ) → square (z_at m) ≤ 128 * 128
z-square m = rw (← (z_period m)) (low (m % 63) (omega arith))
  where
    low : (m : ℕ) → m < 63 → square (z_at m) ≤ 16384
    low m p = leb-true _ _ (unfold short_small in every_below_at 63 short_small all_short_small m p)

unfoldable entry_small : ℕ → Bool
entry_small m = nat_le (square (w_at m)) 268468225

all_entries_small : every_below 128 entry_small ≡ true
unfolding quarter cosine w_at entry_small every_below
all_entries_small = refl

pub w-square : (m : ℕ) → square (w_at m) ≤ 16385 * 16385
w-square m = rw (← (w_period m)) (low (m % 128) (omega arith))
  where
    low : (m : ℕ) → m < 128 → square (w_at m) ≤ 268468225
    low m p = leb-true _ _ (unfold entry_small in every_below_at 128 entry_small all_entries_small m p)
