-- The PSS values: bounds, and reading them from the list.
use Rattle.std.proofs.Common.{◌≡◌, ℕ, ◌-◌, ◌*◌, ◌<◌, refl}
use Rattle.cs_num.specs.Complex.{IsWithin, nothing, value_at}
use Rattle.finite.proofs.Lists.{values_below_at}
use Rattle.fold128.specs.Tables.{z_at}
use Rattle.fold128.proofs.Entries.{z_small}
use Rattle.sync_seq.specs.Primary.{root_of, turns, pss_at, pss_list}

pub pss_is : (n2 n : ℕ) → pss_at n2 n ≡ z_at ((63 - root_of n2) * turns n)
unfolding pss_at
pss_is n2 n = refl

pub pss-within : (n2 n : ℕ) → IsWithin 127 (pss_at n2 n)
unfolding pss_at
pss-within n2 n = z_small ((63 - root_of n2) * turns n)

pub pss_list_at : (n2 n : ℕ) → n < 62 → value_at (pss_list n2) n ≡ pss_at n2 n
unfolding pss_list
pss_list_at n2 n l = values_below_at (pss_at n2) 62 n nothing l
