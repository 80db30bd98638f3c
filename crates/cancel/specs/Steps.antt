-- The steps of the search for the best candidate through 25 gains, in order. (own)
use Rattle.std.specs.Prelude.{◌≡◌, ℕ, ◌/◌, ◌%◌, ◌<◌, ◌≤◌, nat_lt, if◌then◌else◌, Option, Some, None, MatchOption}
use Rattle.std.specs.Prelude.{IfSome, pos, ◌+ℤ◌, ◌-ℤ◌, List, length}
use Rattle.std.specs.Option.{option_or}
use Rattle.finite.specs.Lists.{values_below}
use Rattle.cs_num.specs.declared.Cpx.{Cpx}
use Rattle.cs_num.specs.declared.Sample.{Sample}
use Rattle.cs_num.specs.Complex.{minus, times, sample_at}
use Rattle.cs_num.specs.Rounding.{nearest_sample}
use Rattle.cell_plan.specs.Pair.{gain_of}
use Rattle.cancel.specs.declared.subtracted.Subtracted.{Subtracted}
use Rattle.cancel.specs.Residue.{power_of}
use Rattle.cancel.specs.declared.choosing.GainChoice.{GainChoice}
use Rattle.cancel.specs.Gain.{IsCandidate, GoesBefore, IsBest, greatest_below}

-- gain `i` of 25, whose components differ from the components of `middle` by at most 2, ordered by real part, then by
-- imaginary part
abbrev pub around : Cpx → ℕ → Cpx
around middle i = record { re = middle.re +ℤ (pos (i / 5) -ℤ pos 2); im = middle.im +ℤ (pos (i % 5) -ℤ pos 2) }

-- `choice` is the best candidate among the first `n` of 25 gains, with its largest residual component
pub record IsBestBefore (greatest : Cpx → ℕ) (middle : Cpx) (n : ℕ) (choice : GainChoice) : Type 0 where
  pub index : ℕ
  pub before : index < n
  pub is : around middle index ≡ choice.gain
  pub candidate : IsCandidate middle choice.gain
  pub first : (j : ℕ) → j < n → IsCandidate middle (around middle j) → GoesBefore greatest choice.gain (around middle j)
  pub leaves : choice.greatest ≡ greatest choice.gain

-- the search skips a gain whose largest residual component is `left`: there is a `limit`, and `left` is not below it
abbrev pub IsPast : Option ℕ → ℕ → Type 0
IsPast limit left = MatchOption limit ⊥ (λ end. end ≤ left)

-- if there is a `limit`, `middle` is a candidate, and its largest residual component is below `limit`
abbrev pub IsLimit : (Cpx → ℕ) → Cpx → Option ℕ → Type 0
IsLimit greatest middle limit = IfSome limit (λ end. IsCandidate middle middle × (greatest middle < end))

-- the best candidate among the first `n` gains, or `None` if no candidate among them has a largest residual component
-- below `limit`
abbrev pub IsFoundBefore : (Cpx → ℕ) → Cpx → Option ℕ → ℕ → Option GainChoice → Type 0
IsFoundBefore greatest middle limit n (Some choice) = IsBestBefore greatest middle n choice
IsFoundBefore greatest middle limit n None =
    (j : ℕ) → j < n → IsCandidate middle (around middle j) → IsPast limit (greatest (around middle j))

-- the best candidate with its largest residual component, or `None` if there is no candidate
abbrev pub IsChosen : (Cpx → ℕ) → Cpx → Option GainChoice → Type 0
IsChosen greatest middle (Some choice) = IsBest greatest middle choice.gain × (choice.greatest ≡ greatest choice.gain)
IsChosen greatest middle None = (gain : Cpx) → IsCandidate middle gain → ⊥

-- the bound that a better gain's largest residual component must stay below: the largest residual component of the best
-- gain so far, or `limit` if there is no such gain
abbrev pub end_of : Option ℕ → Option GainChoice → Option ℕ
end_of limit None = limit
end_of limit (Some found) = Some found.greatest

-- `choice`, if its largest residual component is below the bound or there is no bound, and otherwise `None`
abbrev pub choice_below : Option ℕ → GainChoice → Option GainChoice
choice_below None choice = Some choice
choice_below (Some end) choice = if nat_lt choice.greatest end then Some choice else None

-- the better choice: `choice` if its largest residual component is below `found`'s, or below `limit` if nothing was
-- found, and otherwise `found`
abbrev pub better_choice : Option ℕ → Option GainChoice → GainChoice → Option GainChoice
better_choice limit found choice = option_or (choice_below (end_of limit found) choice) found

-- the residual of sample `i` for a gain, and its largest component over all samples (`greatest_of`), given the
-- transmitted samples
abbrev pub left_of : List Sample → List Sample → Cpx → ℕ → Cpx
left_of samples sent gain i = minus (sample_at samples i) (times gain (sample_at sent i))

abbrev pub greatest_of : List Sample → List Sample → Cpx → ℕ
greatest_of samples sent gain = greatest_below (length samples) (left_of samples sent gain)

-- a gain with its largest residual component
abbrev pub choice_of : (Cpx → ℕ) → Cpx → GainChoice
choice_of greatest gain = record { gain = gain; greatest = greatest gain }

-- `taken` is the result of subtracting the transmitted samples times the gain of `choice`
pub record IsTakenOff (samples sent : List Sample) (choice : GainChoice) (taken : Subtracted) : Type 0 where
  pub gain : gain_of taken.gain ≡ choice.gain
  pub greatest : taken.greatest ≡ choice.greatest
  pub residue : taken.residue ≡ values_below (length samples) (λ i. nearest_sample (left_of samples sent choice.gain i))
  pub before : taken.before ≡ power_of samples
  pub after : taken.after ≡ power_of taken.residue
