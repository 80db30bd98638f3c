-- The table's entries: bounds, and reading them by symmetry.
use Rattle.std.proofs.Common.{◌≡◌, ℕ, ◌+◌, ◌-◌, ◌%◌, ◌≤◌, Bool, true, false, arith, refl, ap, sym, ◌∙◌, List, ℤ, pos, neg_ℤ, nat_le, slice_index, get_or, to_z, of_z, w32, w64, FitsSigned, ◌<◌}
use Rattle.std.specs.Prelude.{nat_abs}
use Rattle.std.proofs.lemmas.Int.{ints, fits_signed_from_abs}
use Rattle.finite.specs.Lists.{values_below}
use Rattle.finite.proofs.Lists.{values_below_at}
use Rattle.std.proofs.lemmas.Bool.{leb-true, leb-false}
use Rattle.std.proofs.lemmas.Bool.Decides.{nat_tests}
use Rattle.cs_num.specs.Complex.{IsWithin}
use Rattle.fold128.proofs.Entries.{entry_passes}
use Rattle.tones.specs.Tones.{quarter, half_turn, folded, cosine, t_at}

pub quarter_small : (i : ℕ) → i ≤ 512 → slice_index quarter i ≤ 262144
unfolding quarter
quarter_small i h = leb-true _ _ (entry_passes (λ x. nat_le x 262144) quarter i 0 refl (omega arith))

-- an entry fits 32 bits
pub quarter_fits : (n : ℕ) → n ≤ 262144 → FitsSigned w32 (pos n)
quarter_fits n h = fits_signed_from_abs w32 (pos n) (omega (arith, h))

pub quarter_kept : (n : ℕ) → n ≤ 262144 → to_z w32 n ≡ pos n
quarter_kept n h = omega (arith, ints, h)

quarter_ends : slice_index quarter 512 ≡ 0
unfolding quarter
quarter_ends = refl

pub folded_le : (m : ℕ) → folded m ≤ 1024
folded_le m = grind (arith, nat_tests)

half_turn_small : (h : ℕ) (low : Bool) → nat_le h 512 ≡ low → h ≤ 1024 → nat_abs (half_turn h) ≤ 262144
half_turn_small h true e l = rw e (quarter_small h (leb-true _ _ e))
half_turn_small h false e l =
    let q : slice_index quarter (1024 - h) ≤ 262144 = quarter_small (1024 - h) (grind (arith, nat_tests)) in
    rw e (omega (arith, ints))

pub cosine_small : (m : ℕ) → nat_abs (cosine m) ≤ 262144
unfolding cosine
cosine_small m = half_turn_small (folded m) (nat_le (folded m) 512) refl (folded_le m)

pub t_small : (m : ℕ) → IsWithin 262144 (t_at m)
unfolding t_at
t_small m = record { re = cosine_small m; im = cosine_small (m + 1536) }

pub cosine_period : (m : ℕ) → cosine (m % 2048) ≡ cosine m
unfolding cosine
cosine_period m = let e : m % 2048 % 2048 ≡ m % 2048 = omega arith in rw e refl

pub cosine_same : (i k : ℕ) → i % 2048 ≡ k % 2048 → cosine i ≡ cosine k
cosine_same i k e = sym (cosine_period i) ∙ ap cosine e ∙ cosine_period k

-- ---- half a period negates

folded_half : (m : ℕ) → folded (m + 1024) ≡ 1024 - folded m
folded_half m = grind (arith, nat_tests)

negated_back : (z : ℤ) → z ≡ neg_ℤ (neg_ℤ z)
negated_back z = omega (arith, ints)

half_turn-low : (h : ℕ) → nat_le h 512 ≡ true → half_turn h ≡ pos (slice_index quarter h)
half_turn-low h e = rw e refl

half_turn-high : (h : ℕ) → nat_le h 512 ≡ false → half_turn h ≡ neg_ℤ (pos (slice_index quarter (1024 - h)))
half_turn-high h e = rw e refl

half_turn_negates : (h : ℕ) (low high : Bool) → nat_le h 512 ≡ low → nat_le (1024 - h) 512 ≡ high → h ≤ 1024 → half_turn (1024 - h) ≡ neg_ℤ (half_turn h)
half_turn_negates h true true p q l =
    let e : h ≡ 512 = omega (arith, leb-true _ _ p, leb-true _ _ q) in
    rw e (rw quarter_ends refl)
half_turn_negates h true false p q l =
    let e : 1024 - (1024 - h) ≡ h = omega (arith, l) in
    half_turn-high (1024 - h) q ∙ ap (λ i. neg_ℤ (pos (slice_index quarter i))) e ∙ ap neg_ℤ (sym (half_turn-low h p))
half_turn_negates h false true p q l =
    half_turn-low (1024 - h) q ∙ negated_back (pos (slice_index quarter (1024 - h))) ∙ ap neg_ℤ (sym (half_turn-high h p))
half_turn_negates h false false p q l = absurd (omega (arith, leb-false _ _ p, leb-false _ _ q))

pub cosine_negates : (m : ℕ) → cosine (m + 1024) ≡ neg_ℤ (cosine m)
unfolding cosine
cosine_negates m =
    ap half_turn (folded_half m)
    ∙ half_turn_negates (folded m) (nat_le (folded m) 512) (nat_le (1024 - folded m) 512) refl refl (folded_le m)

-- ---- the table in memory

-- a number of the table's magnitude survives 32 and 64 bits
pub kept : (x : ℤ) → nat_abs x ≤ 262144 → to_z w64 (of_z w64 (to_z w32 (of_z w32 x))) ≡ x
kept x h = omega (arith, ints, h)

pub kept_short : (x : ℤ) → nat_abs x ≤ 262144 → to_z w32 (of_z w32 x) ≡ x
kept_short x h = omega (arith, ints, h)

pub listed_at : (xs : List ℤ) (m : ℕ) (x : ℤ) → xs ≡ values_below 3584 cosine → m < 3584 → x ≡ get_or xs m x → x ≡ cosine m
listed_at xs m x listed inside is = is ∙ ap (λ ys. get_or ys m x) listed ∙ values_below_at cosine 3584 m x inside

pub listed_entry : (xs : List ℤ) (m : ℕ) (x : ℤ) → xs ≡ values_below 3584 cosine → m < 3584 → x ≡ get_or xs m x →
    to_z w64 (of_z w64 (to_z w32 (of_z w32 x))) ≡ cosine m
listed_entry xs m x listed inside is =
    let e = listed_at xs m x listed inside is in
    ap (λ (z : ℤ). to_z w64 (of_z w64 (to_z w32 (of_z w32 z)))) e ∙ kept (cosine m) (cosine_small m)

pub t_from : (m : ℕ) → t_at m ≡ record { re = cosine m; im = cosine (m + 1536) }
unfolding t_at
t_from m = refl

-- ---- reading C by symmetry

pub cosine_low : (m : ℕ) → m % 2048 ≤ 1024 → cosine m ≡ half_turn (m % 2048)
unfolding cosine
cosine_low m h = let e : folded m ≡ m % 2048 = grind (arith, nat_tests) in ap half_turn e

pub cosine_high : (m : ℕ) → 1024 < m % 2048 → cosine m ≡ half_turn (2048 - m % 2048)
unfolding cosine
cosine_high m h = let e : folded m ≡ 2048 - m % 2048 = grind (arith, nat_tests) in ap half_turn e
