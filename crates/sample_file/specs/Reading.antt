-- Reading a recording from a source: the bytes that the source supplied between its states `before` and `now`. (own)
use Rattle.std.specs.Prelude.{◌≡◌, ◌≢◌, ℕ, ◌*◌, ◌%◌, ◌<◌, ◌≤◌, List, length, take}
use Rattle.cs_num.specs.declared.Sample.{Sample}
use Rattle.lte_types.specs.Numerology.{least_samples, most_samples}
use Rattle.cs_outside.specs.Outside.{SourceState}
use Rattle.cs_outside.specs.Streams.{HasReadAll}
use Rattle.sample_file.specs.declared.form.SampleForm.{SampleForm}
use Rattle.sample_file.specs.Recording.{width, samples_in}

-- the minimum number of bytes in the input of a recording, 30 ms at `factor` times 1.92 million samples per second, by
-- sample format
abbrev pub least_bytes_at : ℕ → SampleForm → ℕ
least_bytes_at factor form = factor * least_samples * width form

-- the maximum number of bytes in the input of a recording, one second at `factor` times 1.92 million samples per
-- second, by sample format
abbrev pub most_bytes_at : ℕ → SampleForm → ℕ
most_bytes_at factor form = factor * most_samples * width form

-- the minimum number of bytes in a recording's input, by sample format
abbrev pub least_bytes : SampleForm → ℕ
least_bytes = least_bytes_at 1

-- the maximum number of bytes in a recording's input, by sample format
abbrev pub most_bytes : SampleForm → ℕ
most_bytes = most_bytes_at 1

-- the complete input was read. It is long enough and ends with a complete sample, and `recording` has all its samples.
pub record HasReadRecordingAt (factor : ℕ) (form : SampleForm) (recording : List Sample) (before now : SourceState) :
    Type 0 where
  pub input : List ℕ
  pub read : HasReadAll (most_bytes_at factor form) input before now
  pub whole_samples : length input % width form ≡ 0
  pub enough : least_bytes_at factor form ≤ length input
  pub samples : recording ≡ samples_in form input

-- a recording was read, and `front` is its first `most` samples, or all samples if it has fewer
pub record HasReadFrontAt (factor : ℕ) (form : SampleForm) (most : ℕ) (front : List Sample) (before now : SourceState) :
    Type 0 where
  pub recording : List Sample
  pub read : HasReadRecordingAt factor form recording before now
  pub front_is : front ≡ take most recording

-- the complete input was read, and it ends within a sample
pub record HasReadRaggedAt (factor : ℕ) (form : SampleForm) (before now : SourceState) : Type 0 where
  pub input : List ℕ
  pub read : HasReadAll (most_bytes_at factor form) input before now
  pub ragged : length input % width form ≢ 0

-- the complete input was read; it ends with a complete sample, but is too short for a recording
pub record HasReadTooShortAt (factor : ℕ) (form : SampleForm) (before now : SourceState) : Type 0 where
  pub input : List ℕ
  pub read : HasReadAll (most_bytes_at factor form) input before now
  pub whole_samples : length input % width form ≡ 0
  pub too_short : length input < least_bytes_at factor form

-- ---- at 1.92 million samples per second

-- the complete input was read; it is long enough and ends with a complete sample, and the recording has all its samples
abbrev pub HasReadRecording : SampleForm → List Sample → SourceState → SourceState → Type 0
HasReadRecording = HasReadRecordingAt 1

-- a recording was read, and the front is its first samples, as many as the given number, or all if it has fewer
abbrev pub HasReadFront : SampleForm → ℕ → List Sample → SourceState → SourceState → Type 0
HasReadFront = HasReadFrontAt 1

-- the complete input was read, and it ends within a sample
abbrev pub HasReadRagged : SampleForm → SourceState → SourceState → Type 0
HasReadRagged = HasReadRaggedAt 1

-- the complete input was read; it ends with a complete sample, but is too short for a recording
abbrev pub HasReadTooShort : SampleForm → SourceState → SourceState → Type 0
HasReadTooShort = HasReadTooShortAt 1
