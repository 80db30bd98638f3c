-- Recording number `n` for each transmission scheme. (own)
use Rattle.std.specs.Prelude.{◌≡◌, ℕ, nat_abs, List, None}
use Rattle.cs_num.specs.declared.Sample.{Sample}
use Rattle.lte_types.specs.declared.carrier.Carrier.{Carrier}
use Rattle.lte_types.specs.declared.carrier.Carrier.TheVariants.{OnePort}
use Rattle.cell_tx.specs.Clean.{IsClean}
use Rattle.cell_plan.specs.Pair.{gain_of}
use Rattle.cell_tx.specs.Emission.{received_by, IsCleanBy}
use Rattle.cell_tx.specs.Laws.{values_with}
use Rattle.capture_make.specs.declared.made.Made.{Made}
use Rattle.capture_make.specs.declared.made.MadeBy.{MadeBy}
use Rattle.capture_make.specs.Recipe.{plan, number, offset, sample_count, gain, gains, IsBound}
use Rattle.capture_make.specs.Errors.{error}

-- the samples of recording `n`, with errors up to `bound`: the received sum over all ports without load, plus the
-- errors
unfoldable pub samples_by : Carrier → ℕ → ℕ → List Sample
samples_by carrier n bound =
    values_with (sample_count n) (received_by carrier None (plan n) (number n) (offset n) (gains carrier n))
    (error n bound)

-- `made` holds the emission, the error bound and the samples of recording `n` for a transmission scheme
pub record IsMadeBy (carrier : Carrier) (n : ℕ) (made : MadeBy) : Type 0 where
  pub carrier_is : made.sent.carrier ≡ carrier
  pub plan_is : made.sent.cell ≡ plan n
  pub number_is : made.sent.timing.sfn ≡ number n
  pub offset_is : made.sent.timing.offset ≡ offset n
  pub count_is : made.sent.samples ≡ sample_count n
  pub gains_are : made.sent.gains ≡ gains carrier n
  pub load_is : made.sent.load ≡ None
  pub bound : IsBound carrier n made.bound
  pub samples_are : made.recording ≡ samples_by carrier n (nat_abs made.bound)

-- the recording is clean for recording `n`'s emission, with error components up to `eps`
abbrev pub IsCleanNumber : Carrier → ℕ → List Sample → ℕ → Type 0
IsCleanNumber carrier n recording eps =
    IsCleanBy carrier None recording (plan n) (number n) (offset n) (gains carrier n) eps

-- ---- recording n with one antenna port

abbrev pub samples : ℕ → ℕ → List Sample
samples n bound = samples_by OnePort n bound

pub record IsMade (n : ℕ) (made : Made) : Type 0 where
  pub plan_is : made.sent.cell ≡ plan n
  pub number_is : made.sent.sfn ≡ number n
  pub offset_is : made.sent.offset ≡ offset n
  pub count_is : made.sent.samples ≡ sample_count n
  pub gain_is : gain_of made.sent.gain ≡ gain n
  pub bound : IsBound OnePort n made.bound
  pub samples_are : made.recording ≡ samples n (nat_abs made.bound)

-- the recording is a clean recording of its transmission, with error components up to its bound
abbrev pub IsCleanlyMade : Made → Type 0
IsCleanlyMade made =
    IsClean made.recording made.sent.cell made.sent.sfn made.sent.offset (gain_of made.sent.gain) (nat_abs made.bound)
