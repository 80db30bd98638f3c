-- A corrected recording, and its bytes. (own)
use Rattle.std.specs.Prelude.{◌≡◌, ℕ, Option, Some, None, List}
use Rattle.cs_num.specs.declared.Sample.{Sample}
use Rattle.sample_file.specs.Recording.{bytes_of}
use Rattle.frequency_offset.specs.Estimation.{IsApplied}
use Rattle.frequency_offset.specs.Turned.{turned}
use Rattle.wide_turn.specs.Turned.{turned as turned_wide, IsApplied as IsAppliedWide}
use Rattle.lte_args.specs.declared.form.Rate.{Rate}
use Rattle.lte_args.specs.Words.{exponent_of}
use Rattle.lte_args.specs.declared.form.Turn.{Turn}
use Rattle.lte_args.specs.declared.form.Turn.TheVariants.{AsEstimated, Steps}

-- `now` is the recording `samples`, corrected by its estimated frequency offset or by a given one
abbrev pub IsTurned : Turn → List Sample → List Sample → Type 0
IsTurned AsEstimated samples now = IsApplied samples now
IsTurned (Steps m) samples now = now ≡ turned samples m

-- `now` is the recording `samples` at 1.92 * 2^rate million samples per second, corrected by its estimated frequency
-- offset or by a given one
abbrev pub IsTurnedWide : Turn → ℕ → List Sample → List Sample → Type 0
IsTurnedWide AsEstimated rate samples now = IsAppliedWide rate samples now
IsTurnedWide (Steps m) rate samples now = now ≡ turned_wide rate samples m

-- `now` is the recording `samples` at an optional rate, corrected
abbrev pub IsTurnedAt : Option Rate → Turn → List Sample → List Sample → Type 0
IsTurnedAt None turn samples now = IsTurned turn samples now
IsTurnedAt (Some rate) turn samples now = IsTurnedWide turn (exponent_of rate) samples now

-- `output` is the bytes, 16 bits per component, of samples that satisfy `Are`
pub record IsBytesOf (Are : List Sample → Type 0) (output : List ℕ) : Type 0 where
  pub samples : List Sample
  pub are : Are samples
  pub bytes : output ≡ bytes_of samples

-- `output` is the corrected recording as bytes, 16 bits per component
abbrev pub IsTurnedAsBytes : Option Rate → Turn → List Sample → List ℕ → Type 0
IsTurnedAsBytes rate turn samples output = IsBytesOf (IsTurnedAt rate turn samples) output
