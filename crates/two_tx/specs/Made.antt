-- Recording number `n` with two antenna ports: the recipe for any transmission scheme, with two ports. (own)
use Rattle.std.specs.Prelude.{◌≡◌, ℕ, nat_abs, [], ◌∷◌, map}
use Rattle.cs_num.specs.declared.Cpx.{Cpx}
use Rattle.cs_num.specs.Complex.{value_at}
use Rattle.lte_types.specs.declared.carrier.Carrier.TheVariants.{TwoPorts}
use Rattle.cell_tx.specs.Clean.{IsCleanOfPorts}
use Rattle.cell_plan.specs.Pair.{gain_of}
use Rattle.capture_make.specs.Recipe.{plan, number, offset, first_gain, second_gain, IsBound}
use Rattle.capture_make.specs.Made.{samples_by}
use Rattle.two_tx.specs.declared.made.TwoMade.{TwoMade}

-- `made` holds the plan, the transmission, the gains, the error bound and the samples of recording `n`
pub record IsMade (n : ℕ) (made : TwoMade) : Type 0 where
  pub plan_is : made.plan ≡ plan n
  pub number_is : made.sfn ≡ number n
  pub offset_is : made.offset ≡ offset n
  pub gains_are : map gain_of made.gains ≡ first_gain n ∷ second_gain n ∷ []
  pub bound : IsBound TwoPorts n made.bound
  pub samples_are : made.recording ≡ samples_by TwoPorts n (nat_abs made.bound)

-- the gain of a port
abbrev pub gain_at : TwoMade → ℕ → Cpx
gain_at made port = value_at (map gain_of made.gains) port

-- the recording is a clean recording of its transmission, with its gains and with error components up to its bound
abbrev pub IsCleanlyMade : TwoMade → Type 0
IsCleanlyMade made =
    IsCleanOfPorts made.recording made.plan made.sfn made.offset (gain_at made 0) (gain_at made 1)
    (nat_abs made.bound)
