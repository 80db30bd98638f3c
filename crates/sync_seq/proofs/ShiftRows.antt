-- The shifts for the first and the last group.
use Rattle.std.proofs.Common.{◌≡◌, refl}
use Rattle.sync_seq.specs.Secondary.{shift_sum, m0_of, m1_of}

first_group : (m0_of 0 ≡ 0) × (m1_of 0 ≡ 1)
unfolding shift_sum
first_group = (refl, refl)

group_30 : (m0_of 30 ≡ 0) × (m1_of 30 ≡ 2)
unfolding shift_sum
group_30 = (refl, refl)

last_group : (m0_of 167 ≡ 2) × (m1_of 167 ≡ 9)
unfolding shift_sum
last_group = (refl, refl)
