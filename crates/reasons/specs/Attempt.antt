-- The attempt to decode a MIB from one frame. (own)
use Rattle.std.specs.Prelude.{◌≡◌, ◌⊎◌, ℕ, ◌*◌, ◌<◌, ◌≤◌, Bool, List, ℤ, MatchOption}
use Rattle.conv_code.specs.Cost.{word_cost}
use Rattle.tailbite.specs.LeastWord.{IsLeastWord}
use Rattle.pbch.specs.Master.{total, Decodes, DecodesNothing}
use Rattle.reasons.specs.declared.reason.Attempt.{Attempt}

-- the combined soft values decode to a word that carries a MIB for `ports` antenna ports
pub record HasPorts (values : List (List ℤ)) (ports : ℕ) : Type 0 where
  pub word : List Bool
  pub carries : Decodes values word ports

-- `attempt` has the minimum cost among words for the combined soft values, the sum of their magnitudes, and the antenna
-- port count of the MIB that they decode to, if any
pub record IsAttempt (values : List (List ℤ)) (phase : ℕ) (attempt : Attempt) : Type 0 where
  pub at_phase : attempt.phase ≡ phase
  pub word : List Bool
  pub least : IsLeastWord values word
  pub cost : attempt.cost ≡ word_cost values word
  pub total : attempt.total ≡ total values
  pub ports : MatchOption attempt.ports (DecodesNothing values) (HasPorts values)

-- `attempt` is compared with the others: one of its combined soft values is not 0, or its phase is 0
abbrev pub IsCompared : Attempt → Type 0
IsCompared attempt = (attempt.phase ≡ 0) ⊎ (0 < attempt.total)

-- `attempt` is the first with the minimum ratio of cost to total, among the attempts that are compared, at phases below
-- `end`; a ratio 0 / 0 at phase 0 is the minimum
pub record IsClosestBefore (values : ℕ → List (List ℤ)) (end : ℕ) (attempt : Attempt) : Type 0 where
  pub before_end : attempt.phase < end
  pub is : IsAttempt (values attempt.phase) attempt.phase attempt
  pub compared : IsCompared attempt
  pub none_closer : (other : Attempt) → other.phase < end → IsAttempt (values other.phase) other.phase other →
      IsCompared other → attempt.cost * other.total ≤ other.cost * attempt.total
  pub first : (other : Attempt) → other.phase < attempt.phase → IsAttempt (values other.phase) other.phase other →
      IsCompared other → attempt.cost * other.total < other.cost * attempt.total

-- `attempt` is the closest to a MIB among the attempts at the four phases of a frame
abbrev pub IsClosest : (ℕ → List (List ℤ)) → Attempt → Type 0
IsClosest values attempt = IsClosestBefore values 4 attempt
