-- Recordings: lists of samples, and their bytes. (own; the formats of raw captures)
use Rattle.std.specs.Prelude.{◌≡◌, ℕ, ◌≤◌, ◌+◌, ◌*◌, ◌++◌, List, [], ◌∷◌, length, slice_index, take, All, ℤ, pos, ◌-ℤ◌}
use Rattle.std.specs.List.{flat_map}
use Rattle.std.specs.Int.{w16, cast_unsigned}
use Rattle.byteorder.specs.Endian.{twos_complement, little_bytes}
use Rattle.cs_num.specs.declared.Sample.{Sample}
use Rattle.cs_num.specs.Complex.{IsWithin, value_of}
use Rattle.lte_types.specs.Numerology.{least_samples, most_samples}
use Rattle.sample_file.specs.declared.form.SampleForm.{SampleForm}
use Rattle.sample_file.specs.declared.form.SampleForm.TheVariants.{Ci16, Cu8}

-- ---- a sample and its bytes

-- the component in two bytes, low byte first: a 16-bit two's complement number
abbrev pub component_of : ℕ → ℕ → ℤ
component_of low high = twos_complement 2 (low + 256 * high)

-- the samples in a list of bytes, four bytes each, real component first; an incomplete last sample is dropped
abbrev pub samples_of : List ℕ → List Sample
samples_of (a ∷ b ∷ c ∷ d ∷ bytes) = record { re = component_of a b; im = component_of c d } ∷ samples_of bytes
samples_of bytes = []

-- the component that a byte v from 0 to 255 represents, 2v - 255
abbrev pub centred : ℕ → ℤ
centred v = pos (2 * v) -ℤ pos 255

-- the samples in a list of bytes, two bytes each, real component first; an incomplete last sample is dropped
abbrev pub samples_of_8 : List ℕ → List Sample
samples_of_8 (a ∷ b ∷ bytes) = record { re = centred a; im = centred b } ∷ samples_of_8 bytes
samples_of_8 bytes = []

-- the two bytes of a component: a 16-bit two's complement number, low byte first
abbrev pub component_bytes : ℤ → List ℕ
component_bytes z = little_bytes 2 (cast_unsigned w16 z)

-- the four bytes of a sample in the format ci16_le, real component first
abbrev pub sample_bytes : Sample → List ℕ
sample_bytes sample = component_bytes sample.re ++ component_bytes sample.im

-- the bytes of samples in the format ci16_le, one after the other
abbrev pub bytes_of : List Sample → List ℕ
bytes_of samples = flat_map sample_bytes samples

-- a law: the bytes of samples are read back as equal samples, if no component is below -32,767
abbrev pub AreReadBack : Type 0
AreReadBack =
    (samples : List Sample) → All (λ s. IsWithin 32767 (value_of s)) samples → samples_of (bytes_of samples) ≡ samples

-- ---- sample formats

-- the number of bytes per sample, by sample format
abbrev pub width : SampleForm → ℕ
width Ci16 = 4
width Cu8 = 2

-- the samples in a list of bytes, by sample format
abbrev pub samples_in : SampleForm → List ℕ → List Sample
samples_in Ci16 bytes = samples_of bytes
samples_in Cu8 bytes = samples_of_8 bytes

-- the first sample in a list of bytes, by sample format
abbrev pub sample_in : SampleForm → List ℕ → Sample
sample_in Ci16 bytes = record {
  re = component_of (slice_index bytes 0) (slice_index bytes 1);
  im = component_of (slice_index bytes 2) (slice_index bytes 3);
}
sample_in Cu8 bytes = record { re = centred (slice_index bytes 0); im = centred (slice_index bytes 1) }

-- ---- how many samples a recording has

-- a recording has 57,600 to 1,920,000 samples
pub record IsRecording (samples : List Sample) : Type 0 where
  pub least : least_samples ≤ length samples
  pub most : length samples ≤ most_samples

-- the first `count` samples of the recordings `first` and `second` are equal
abbrev pub AgreeBefore : ℕ → List Sample → List Sample → Type 0
AgreeBefore count first second = take count first ≡ take count second
