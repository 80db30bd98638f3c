-- The samples that bytes hold.
use Rattle.std.proofs.Common.{◌≡◌, ℕ, suc, ◌+◌, ◌-◌, ◌*◌, ◌/◌, ◌%◌, ◌<◌, ◌≤◌, arith, refl, ap, ◌∙◌, List, [], ◌∷◌, ◌++◌, length, ℤ, pos, negsuc}
use Rattle.std.specs.Prelude.{nat_abs}
use Rattle.std.specs.Int.{w16, cast_unsigned}
use Rattle.std.proofs.lemmas.Int.{ints}
use Rattle.std.proofs.lemmas.Bool.Decides.{nat_tests}
use Rattle.std.proofs.lemmas.List.Elements.{All-head, All-tail}
use Rattle.byteorder.specs.Endian.{twos_complement}
use Rattle.cs_num.specs.declared.Sample.{Sample}
use Rattle.cs_num.specs.Complex.{IsWithin, value_of}
use Rattle.sample_file.specs.declared.form.SampleForm.{SampleForm}
use Rattle.sample_file.specs.declared.form.SampleForm.TheVariants.{Ci16, Cu8}
use Rattle.sample_file.specs.Recording.{component_of, samples_of, centred, samples_of_8, width, samples_in, sample_bytes, bytes_of, AreReadBack}

-- the bytes 02 01 ff ff are the sample (258, -1)
two_components : samples_of (2 ∷ 1 ∷ 255 ∷ 255 ∷ []) ≡ record { re = pos 258; im = negsuc 0 } ∷ []
two_components = refl

-- the bytes 00 ff 80 7f are the samples (-255, 255) and (1, -1)
two_samples : samples_of_8 (0 ∷ 255 ∷ 128 ∷ 127 ∷ []) ≡
    record { re = negsuc 254; im = pos 255 } ∷ record { re = pos 1; im = negsuc 0 } ∷ []
two_samples = refl

-- ---- bytes of complete samples

-- complete samples, followed by other bytes
pub samples_joined : (form : SampleForm) (front back : List ℕ) → length front % width form ≡ 0 →
    samples_in form (front ++ back) ≡ samples_in form front ++ samples_in form back
samples_joined Ci16 [] back whole = refl
samples_joined Ci16 (a ∷ []) back whole = absurd (omega (arith, whole))
samples_joined Ci16 (a ∷ b ∷ []) back whole = absurd (omega (arith, whole))
samples_joined Ci16 (a ∷ b ∷ c ∷ []) back whole = absurd (omega (arith, whole))
samples_joined Ci16 (a ∷ b ∷ c ∷ d ∷ front) back whole =
    ap (λ more. record { re = component_of a b; im = component_of c d } ∷ more) (samples_joined Ci16 front back (omega (arith, whole)))
samples_joined Cu8 [] back whole = refl
samples_joined Cu8 (a ∷ []) back whole = absurd (omega (arith, whole))
samples_joined Cu8 (a ∷ b ∷ front) back whole =
    ap (λ more. record { re = centred a; im = centred b } ∷ more) (samples_joined Cu8 front back (omega (arith, whole)))

-- the number of samples is the number of bytes divided by the width
pub length-samples_in : (form : SampleForm) (bytes : List ℕ) →
    (width form * length (samples_in form bytes) ≤ length bytes) × (length bytes < width form * length (samples_in form bytes) + width form)
length-samples_in Ci16 [] = (omega arith, omega arith)
length-samples_in Ci16 (a ∷ []) = (omega arith, omega arith)
length-samples_in Ci16 (a ∷ b ∷ []) = (omega arith, omega arith)
length-samples_in Ci16 (a ∷ b ∷ c ∷ []) = (omega arith, omega arith)
length-samples_in Ci16 (a ∷ b ∷ c ∷ d ∷ bytes) = let rest = length-samples_in Ci16 bytes in (omega (arith, rest.0), omega (arith, rest.1))
length-samples_in Cu8 [] = (omega arith, omega arith)
length-samples_in Cu8 (a ∷ []) = (omega arith, omega arith)
length-samples_in Cu8 (a ∷ b ∷ bytes) = let rest = length-samples_in Cu8 bytes in (omega (arith, rest.0), omega (arith, rest.1))

-- bytes of complete samples
pub length-of_whole : (form : SampleForm) (bytes : List ℕ) → length bytes % width form ≡ 0 → width form * length (samples_in form bytes) ≡ length bytes
length-of_whole Ci16 bytes whole = let all = length-samples_in Ci16 bytes in omega (arith, whole, all.0, all.1)
length-of_whole Cu8 bytes whole = let all = length-samples_in Cu8 bytes in omega (arith, whole, all.0, all.1)

-- ---- bytes that are read back

two_bytes : (n : ℕ) → n < 65536 → n % 256 + 256 * (n / 256 % 256) ≡ n
two_bytes n below = omega (arith, below)

low : (n : ℕ) → n < 32768 → twos_complement 2 n ≡ pos n
low n below = grind (arith, nat_tests)

high : (m : ℕ) → m < 32768 → twos_complement 2 (65536 - suc m) ≡ negsuc m
high m below = grind (arith, ints, nat_tests)

-- a component is read back from its bytes
component_back : (z : ℤ) → nat_abs z ≤ 32767 → component_of (cast_unsigned w16 z % 256) (cast_unsigned w16 z / 256 % 256) ≡ z
component_back (pos n) small = ap (twos_complement 2) (two_bytes n (omega (arith, small))) ∙ low n (omega (arith, small))
component_back (negsuc m) small = ap (twos_complement 2) (two_bytes (65536 - suc m) (omega (arith, small))) ∙ high m (omega (arith, small))

-- a sample is read back from its bytes
sample_back : (s : Sample) → IsWithin 32767 (value_of s) → samples_of (sample_bytes s) ≡ s ∷ []
sample_back s small =
    ap (λ re. record { re = re; im = component_of (cast_unsigned w16 s.im % 256) (cast_unsigned w16 s.im / 256 % 256) } ∷ []) (component_back s.re small.re) ∙
    ap (λ im. record { re = s.re; im = im } ∷ []) (component_back s.im small.im)

pub samples_back : AreReadBack
samples_back [] small = refl
samples_back (s ∷ rest) small =
    let P : Sample → Type 0 = λ s. IsWithin 32767 (value_of s) in
    ap (λ (first : List Sample). first ++ samples_of (bytes_of rest)) (sample_back s (All-head P s rest small)) ∙
    ap (λ more. s ∷ more) (samples_back rest (All-tail P s rest small))
