-- The three sums at an index, kept in 16 bits.
use Rattle.std.proofs.Common.{◌≡◌, ℕ, ◌<◌, ◌≤◌, ◌∙◌, List, [], ◌∷◌, length, get_or, ℤ, pos, nat_abs, to_z, of_z, w16, w32, refl, ap, arith}
use Rattle.std.proofs.lemmas.List.Elements.{All-get_or}
use Rattle.std.proofs.lemmas.Int.{fits_signed_from_abs, to_z-of_z}
use Rattle.finite.specs.Sizes.{AllWithin}

of_three : (xs : List ℤ) → length xs ≡ 3 → get_or xs 0 (pos 0) ∷ get_or xs 1 (pos 0) ∷ get_or xs 2 (pos 0) ∷ [] ≡ xs
of_three [] size = absurd (omega (arith, size))
of_three (a ∷ []) size = absurd (omega (arith, size))
of_three (a ∷ b ∷ []) size = absurd (omega (arith, size))
of_three (a ∷ b ∷ c ∷ []) size = refl
of_three (a ∷ b ∷ c ∷ d ∷ xs) size = absurd (omega (arith, size))

in_16 : (z : ℤ) → nat_abs z ≤ 2032 → to_z w16 (of_z w16 z) ≡ z
in_16 z small = to_z-of_z w16 z (fits_signed_from_abs w16 z (omega (arith, small)))

in_32 : (z : ℤ) → nat_abs z ≤ 2032 → to_z w32 (of_z w32 z) ≡ z
in_32 z small = to_z-of_z w32 z (fits_signed_from_abs w32 z (omega (arith, small)))

-- a sum cut to 16 bits
abbrev pub cut : ℤ → ℤ
cut z = to_z w16 (of_z w16 (to_z w32 (of_z w32 z)))

-- a kept sum, extended again
abbrev pub wide : ℤ → ℤ
wide z = to_z w32 (of_z w32 (to_z w16 (of_z w16 z)))

-- a function that keeps small integers keeps three of them
three_kept : (f : ℤ → ℤ) → ((z : ℤ) → nat_abs z ≤ 2032 → f z ≡ z) → (xs : List ℤ) → length xs ≡ 3 → AllWithin 2032 xs →
    f (get_or xs 0 (pos 0)) ∷ f (get_or xs 1 (pos 0)) ∷ f (get_or xs 2 (pos 0)) ∷ [] ≡ xs
three_kept f keeps xs size small =
    let at : (t : ℕ) → t < 3 → f (get_or xs t (pos 0)) ≡ get_or xs t (pos 0) =
    λ t below. keeps _ (All-get_or (λ z. nat_abs z ≤ 2032) xs t (pos 0) (omega (arith, size, below)) small) in
    rw (at 0 (omega arith), at 1 (omega arith), at 2 (omega arith)) (of_three xs size)

pub place_cut : (xs : List ℤ) → length xs ≡ 3 → AllWithin 2032 xs → cut (get_or xs 0 (pos 0)) ∷ cut (get_or xs 1 (pos 0)) ∷ cut (get_or xs 2 (pos 0)) ∷ [] ≡ xs
place_cut = three_kept (λ z. cut z) (λ z small. ap (λ y. to_z w16 (of_z w16 y)) (in_32 z small) ∙ in_16 z small)

pub place_wide : (xs : List ℤ) → length xs ≡ 3 → AllWithin 2032 xs → wide (get_or xs 0 (pos 0)) ∷ wide (get_or xs 1 (pos 0)) ∷ wide (get_or xs 2 (pos 0)) ∷ [] ≡ xs
place_wide = three_kept (λ z. wide z) (λ z small. ap (λ y. to_z w32 (of_z w32 y)) (in_16 z small) ∙ in_32 z small)
