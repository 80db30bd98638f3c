-- The tables' entries: bounds, and reading them by symmetry.
use Rattle.std.proofs.Common.{◌≡◌, ℕ, ◌+◌, ◌-◌, ◌%◌, ◌<◌, ◌≤◌, List, length, Bool, true, false, arith, refl, ℤ, pos, nat_le, slice_index, slice_index_or, get_or, to_z, of_z, w8, w64}
use Rattle.std.proofs.lemmas.Int.{ints}
use Rattle.cs_num.specs.Complex.{IsWithin, conjugate}
use Rattle.std.specs.Prelude.{if◌then◌else◌, nat_abs}
use Rattle.std.specs.List.{list_all}
use Rattle.std.proofs.lemmas.Bool.{leb-true, leb-false, le-leb}
use Rattle.std.proofs.lemmas.List.Sums.{AllPass-from_list_all}
use Rattle.std.proofs.lemmas.List.Elements.{All-get_or}
use Rattle.std.proofs.lemmas.Bool.Decides.{nat_tests}
use Rattle.fold128.specs.Tables.{quarter, half_turn, folded, cosine, w_at, z_at, z_half, z_real, z_imaginary}

-- a computed test over a list, read at one entry
pub entry_passes : {X : Type 0} (p : X → Bool) (xs : List X) (i : ℕ) (d : X) → list_all p xs ≡ true → i < length xs → p (get_or xs i d) ≡ true
entry_passes p xs i d all l = All-get_or (λ x. p x ≡ true) xs i d l (AllPass-from_list_all p xs all)

pub quarter_small : (i : ℕ) → i ≤ 32 → slice_index quarter i ≤ 16384
unfolding quarter
quarter_small i h = leb-true _ _ (entry_passes (λ x. nat_le x 16384) quarter i 0 refl (omega arith))

pub z_real_small : (i : ℕ) → i < 32 → nat_abs (slice_index_or z_real i (pos 0)) ≤ 127
unfolding z_real
z_real_small i h = leb-true _ _ (entry_passes (λ x. nat_le (nat_abs x) 127) z_real i (pos 0) refl h)

pub z_imaginary_small : (i : ℕ) → i < 32 → nat_abs (slice_index_or z_imaginary i (pos 0)) ≤ 127
unfolding z_imaginary
z_imaginary_small i h = leb-true _ _ (entry_passes (λ x. nat_le (nat_abs x) 127) z_imaginary i (pos 0) refl h)

-- a small number survives widening from 8 to 64 bits
pub widened : (x : ℤ) → nat_abs x ≤ 127 → to_z w64 (of_z w64 (to_z w8 (of_z w8 x))) ≡ x
widened x h = omega (arith, ints)

pub w_period : (m : ℕ) → w_at (m % 128) ≡ w_at m
unfolding w_at cosine
w_period m =
    let e : m % 128 % 128 ≡ m % 128 = omega arith in
    let f : (m % 128 + 96) % 128 ≡ (m + 96) % 128 = omega arith in
    rw (e, f) refl

pub w_from : (m : ℕ) → w_at m ≡ record { re = cosine m; im = cosine (m + 96) }
unfolding w_at
w_from m = refl

folded_le : (m : ℕ) → folded m ≤ 64
folded_le m = grind (arith, nat_tests)

half_turn_small : (h : ℕ) (low : Bool) → nat_le h 32 ≡ low → h ≤ 64 → nat_abs (half_turn h) ≤ 16384
half_turn_small h true e l = rw e (quarter_small h (leb-true _ _ e))
half_turn_small h false e l =
    let q : slice_index quarter (64 - h) ≤ 16384 = quarter_small (64 - h) (grind (arith, nat_tests)) in
    rw e (omega (arith, ints))

pub cosine_small : (m : ℕ) → nat_abs (cosine m) ≤ 16384
unfolding cosine
cosine_small m = half_turn_small (folded m) (nat_le (folded m) 32) refl (folded_le m)

pub w_small : (m : ℕ) → IsWithin 16384 (w_at m)
unfolding w_at
w_small m = record { re = cosine_small m; im = cosine_small (m + 96) }

pub z_low : (m : ℕ) → m % 63 ≤ 31 → z_at m ≡ z_half (m % 63)
unfolding z_at
z_low m h = let e : nat_le (m % 63) 31 ≡ true = le-leb _ _ h in rw e refl

pub z_high : (m : ℕ) → 31 < m % 63 → z_at m ≡ conjugate (z_half (63 - m % 63))
unfolding z_at
z_high m h = let e : nat_le (m % 63) 31 ≡ false = grind (arith, nat_tests) in rw e refl

pub z_small : (m : ℕ) → IsWithin 127 (z_at m)
unfolding z_at
z_small m = settle (nat_le (m % 63) 31) refl
  where
    settle : (b : Bool) → nat_le (m % 63) 31 ≡ b → IsWithin 127 (if b then z_half (m % 63) else conjugate (z_half (63 - m % 63)))
    settle true e = record { re = z_real_small (m % 63) (omega (arith, leb-true _ _ e)); im = z_imaginary_small (m % 63) (omega (arith, leb-true _ _ e)) }
    settle false e =
        let i : 63 - m % 63 < 32 = omega (arith, leb-false _ _ e) in
        let im = z_imaginary_small (63 - m % 63) i in
        record { re = z_real_small (63 - m % 63) i; im = omega (arith, ints) }
