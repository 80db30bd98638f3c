-- Recordings at 1.92 million samples per second, or at a given rate. (own)
use Rattle.std.specs.Prelude.{◌≡◌, ℕ, ◌*◌, ◌^◌, Option, Some, None, List, take, IfSome}
use Rattle.cs_num.specs.declared.Sample.{Sample}
use Rattle.cs_outside.specs.Outside.{SourceState}
use Rattle.halving.specs.Wide.{Wide, most_kept, narrowed}
use Rattle.sample_file.specs.declared.form.SampleForm.{SampleForm}
use Rattle.sample_file.specs.Recording.{samples_in}
use Rattle.sample_file.specs.Reading.{HasReadRecordingAt}
use Rattle.lte_args.specs.declared.form.Rate.{Rate}
use Rattle.lte_args.specs.declared.form.RecordingForm.{RecordingForm}
use Rattle.lte_args.specs.Words.{exponent_of}
use Rattle.lte_top.specs.declared.reading.Signal.{Signal}

-- the form of a recording without a rate
abbrev pub plain : SampleForm → RecordingForm
plain samples = record { samples = samples; rate = None }

-- the form of a recording with a rate
abbrev pub rated : SampleForm → Rate → RecordingForm
rated samples rate = record { samples = samples; rate = Some rate }

-- a recording's rate as a multiple of 1.92 million samples per second; 1 without a rate
abbrev pub factor_of : Option Rate → ℕ
factor_of None = 1
factor_of (Some rate) = 2 ^ exponent_of rate

-- the first 170 ms of a recording at the rate `rate`
abbrev pub wide_at : Rate → List Sample → Wide
wide_at rate samples = record { samples = take (2 ^ exponent_of rate * most_kept) samples; rate = exponent_of rate }

-- the signal of a recording: without a rate all its samples; with a rate its first 170 ms, and these samples converted
-- to 1.92 million per second
abbrev pub signal_at : Option Rate → List Sample → Signal
signal_at None samples = record { narrow = samples; wide = None }
signal_at (Some rate) samples = record {
  narrow = narrowed (wide_at rate samples);
  wide = Some (wide_at rate samples);
}

-- the signal of the recording with content `bytes`
abbrev pub signal_in : RecordingForm → List ℕ → Signal
signal_in form bytes = signal_at form.rate (samples_in form.samples bytes)

-- a signal's samples at 1.92 million per second are converted from its samples at the given rate, if it has any
abbrev pub IsConverted : Signal → Type 0
IsConverted signal = IfSome signal.wide (λ wide. signal.narrow ≡ narrowed wide)

-- ---- reading

-- a recording was read, and `wide` is its first 170 ms
pub record HasReadWide (form : SampleForm) (rate : Rate) (wide : Wide) (before now : SourceState) : Type 0 where
  pub recording : List Sample
  pub read : HasReadRecordingAt (2 ^ exponent_of rate) form recording before now
  pub wide_is : wide ≡ wide_at rate recording

-- a recording was read, and `narrow` is its signal at 1.92 million samples per second
pub record HasReadNarrow (form : RecordingForm) (narrow : List Sample) (before now : SourceState) : Type 0 where
  pub recording : List Sample
  pub read : HasReadRecordingAt (factor_of form.rate) form.samples recording before now
  pub narrow_is : narrow ≡ (signal_at form.rate recording).narrow
