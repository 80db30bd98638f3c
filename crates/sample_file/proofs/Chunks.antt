-- The samples in bytes that are taken as arrays of four or of two.
use Rattle.std.proofs.Common.{◌≡◌, ℕ, zero, suc, ◌+◌, ◌*◌, ◌<◌, ◌≤◌, List, [], ◌∷◌, length, map, refl, ap, arith}
use Rattle.std.specs.Simd.{first_chunks}
use Rattle.cs_num.specs.declared.Sample.{Sample}
use Rattle.sample_file.specs.declared.form.SampleForm.TheVariants.{Ci16, Cu8}
use Rattle.sample_file.specs.Recording.{component_of, samples_of, centred, samples_of_8, sample_in}

-- samples from arrays of four
pub fours : (n : ℕ) (bytes : List ℕ) → 4 * n ≤ length bytes → length bytes < 4 * n + 4 → map (sample_in Ci16) (first_chunks 4 n bytes) ≡ samples_of bytes
fours zero [] room few = refl
fours zero (a ∷ []) room few = refl
fours zero (a ∷ b ∷ []) room few = refl
fours zero (a ∷ b ∷ c ∷ []) room few = refl
fours zero (a ∷ b ∷ c ∷ d ∷ bytes) room few = absurd (omega (arith, few))
fours (suc n) [] room few = absurd (omega (arith, room))
fours (suc n) (a ∷ []) room few = absurd (omega (arith, room))
fours (suc n) (a ∷ b ∷ []) room few = absurd (omega (arith, room))
fours (suc n) (a ∷ b ∷ c ∷ []) room few = absurd (omega (arith, room))
fours (suc n) (a ∷ b ∷ c ∷ d ∷ bytes) room few =
    ap (λ (more : List Sample). record { re = component_of a b; im = component_of c d } ∷ more) (fours n bytes (omega (arith, room)) (omega (arith, few)))

-- samples from arrays of two
pub twos : (n : ℕ) (bytes : List ℕ) → 2 * n ≤ length bytes → length bytes < 2 * n + 2 → map (sample_in Cu8) (first_chunks 2 n bytes) ≡ samples_of_8 bytes
twos zero [] room few = refl
twos zero (a ∷ []) room few = refl
twos zero (a ∷ b ∷ bytes) room few = absurd (omega (arith, few))
twos (suc n) [] room few = absurd (omega (arith, room))
twos (suc n) (a ∷ []) room few = absurd (omega (arith, room))
twos (suc n) (a ∷ b ∷ bytes) room few =
    ap (λ (more : List Sample). record { re = centred a; im = centred b } ∷ more) (twos n bytes (omega (arith, room)) (omega (arith, few)))
