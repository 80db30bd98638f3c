-- Laws of cancellation rounds. (own)
use Rattle.std.specs.Prelude.{◌≡◌, ◌↔◌, ℕ, zero, suc, ◌<◌, ◌≤◌, Bool, true, List, [], ◌∷◌, length}
use Rattle.std.specs.List.{Contains}
use Rattle.cs_num.specs.declared.Sample.{Sample}
use Rattle.lte_types.specs.declared.entry.Entry.{Entry}
use Rattle.clean_air.specs.Clean.{IsListOfCells}
use Rattle.successive_cancel.specs.declared.round.Round.{Round}
use Rattle.successive_cancel.specs.declared.round.Rounds.{Rounds}
use Rattle.successive_cancel.specs.Rounds.{IsTakenOff, NoneIsTakenOff, IsCancelled}

-- the residual after the given number of rounds, or after all rounds if there are fewer
abbrev pub recording_after : ℕ → List Sample → List Round → List Sample
recording_after zero recording rounds = recording
recording_after (suc n) recording [] = recording
recording_after (suc n) recording (round ∷ rest) = recording_after n round.taken.residue rest

-- the cell list after the given number of rounds, or after all rounds if there are fewer
abbrev pub list_after : ℕ → List Entry → List Round → List Entry
list_after zero list rounds = list
list_after (suc n) list [] = list
list_after (suc n) list (round ∷ rest) = list_after n round.list rest

-- round `n` cancels the cell of an entry in the previous list, and contains the residual and the residual's cell list
pub record IsRoundIn (recording : List Sample) (list : List Entry) (rounds : List Round) (n : ℕ) : Type 0 where
  pub entry : Entry
  pub round : Round
  pub inside : Contains (list_after n list rounds) entry
  pub taken : IsTakenOff (recording_after n recording rounds) entry round.taken
  pub residue : recording_after (suc n) recording rounds ≡ round.taken.residue
  pub listed : IsListOfCells round.taken.residue (list_after (suc n) list rounds)

-- the rounds in plain words: at most `most` rounds each cancel a cell of the previous list. There are fewer than `most`
-- exactly if `ended` is true, and then no entry in the last list can be cancelled
pub record AreInPlainWords (most : ℕ) (recording : List Sample) (list : List Entry) (rounds : List Round)
    (ended : Bool) : Type 0 where
  pub few : length rounds ≤ most
  pub each : (n : ℕ) → n < length rounds → IsRoundIn recording list rounds n
  pub fewer : (ended ≡ true) ↔ (length rounds < most)
  pub last : ended ≡ true →
      NoneIsTakenOff (recording_after (length rounds) recording rounds) (list_after (length rounds) list rounds)

-- a law: the rounds of every recording satisfy `AreInPlainWords`, with a maximum of four rounds
abbrev pub RoundsInPlainWords : Type 0
RoundsInPlainWords = (recording : List Sample) (rounds : Rounds) → IsCancelled recording rounds →
    AreInPlainWords 4 recording rounds.first rounds.taken.items rounds.ended
