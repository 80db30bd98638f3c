-- Synthetic recordings by number with the extended cyclic prefix, without control region and SIB1. (own)
use Rattle.std.specs.Prelude.{◌≡◌, ℕ, ◌/◌, nat_abs}
use Rattle.lte_types.specs.declared.bandwidth.Bandwidth.TheVariants.{N6}
use Rattle.lte_types.specs.declared.carrier.Carrier.TheVariants.{LongPrefix}
use Rattle.lte_types.specs.Block.{HasFields}
use Rattle.cell_plan.specs.Pair.{gain_of}
use Rattle.capture_make.specs.Recipe.{plan, number, offset, gain, IsBound}
use Rattle.capture_make.specs.Made.{samples_by}
use Rattle.long_prefix.specs.declared.plan.LongPlan.{LongPlan}
use Rattle.long_prefix.specs.declared.made.LongMade.{LongMade}
use Rattle.long_prefix.specs.Clean.{IsCleanOfLong}

-- `sent` is the plan of cell number `n`: its identity and MIB
pub record IsPlanOf (n : ℕ) (sent : LongPlan) : Type 0 where
  pub id : sent.id ≡ (plan n).identity
  pub block : HasFields sent.mib N6 (plan n).duration (plan n).resource (number n / 4) (plan n).spare

-- `made` is recording number `n`: its plan, frame number, offset, gain, error bound and samples
pub record IsMadeLong (n : ℕ) (made : LongMade) : Type 0 where
  pub plan_is : IsPlanOf n made.plan
  pub number_is : made.sfn ≡ number n
  pub offset_is : made.offset ≡ offset n
  pub gain_is : gain_of made.gain ≡ gain n
  pub bound : IsBound LongPrefix n made.bound
  pub samples_are : made.recording ≡ samples_by LongPrefix n (nat_abs made.bound)

-- the recording in `made` is a clean recording of its transmission, with errors within its bound
abbrev pub IsCleanlyMade : LongMade → Type 0
IsCleanlyMade made =
    IsCleanOfLong made.recording made.plan made.sfn made.offset (gain_of made.gain) (nat_abs made.bound)
