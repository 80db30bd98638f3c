-- Cancellation of listed cells one after the other, each followed by a search of the residual. (own)
use Rattle.std.specs.Prelude.{◌≡◌, ℕ, zero, suc, Bool, true, false, List, [], ◌∷◌, ◌++◌}
use Rattle.std.specs.List.{Contains}
use Rattle.cs_num.specs.declared.Sample.{Sample}
use Rattle.lte_types.specs.declared.entry.Entry.{Entry}
use Rattle.cell_plan.specs.declared.cell.CellPlan.{CellPlan}
use Rattle.clean_air.specs.Clean.{IsListOfCells}
use Rattle.clean_air.specs.Planned.{IsPlanned}
use Rattle.cancel.specs.declared.subtracted.Subtracted.{Subtracted}
use Rattle.cancel.specs.Residue.{IsSubtracted}
use Rattle.successive_cancel.specs.declared.round.Round.{Round}
use Rattle.successive_cancel.specs.declared.round.Rounds.{Rounds}

-- the cell of `entry` is cancelled: `entry` has a plan, and the plan's cell is subtracted from `recording`, with the
-- start and the number of the entry's first frame
pub record IsTakenOff (recording : List Sample) (entry : Entry) (taken : Subtracted) : Type 0 where
  pub plan : CellPlan
  pub planned : IsPlanned recording entry plan
  pub subtracted : IsSubtracted recording plan entry.start entry.sfn taken

-- no entry in a list has a cell that can be cancelled
abbrev pub NoneIsTakenOff : List Sample → List Entry → Type 0
NoneIsTakenOff recording entries =
    (entry : Entry) (taken : Subtracted) → Contains entries entry → IsTakenOff recording entry taken → ⊥

-- `round` cancels the first entry in `list` whose cell can be cancelled, and contains the cell list of the residual
pub record IsRound (recording : List Sample) (list : List Entry) (round : Round) : Type 0 where
  pub before : List Entry
  pub entry : Entry
  pub after : List Entry
  pub split : list ≡ before ++ entry ∷ after
  pub passed : NoneIsTakenOff recording before
  pub taken : IsTakenOff recording entry round.taken
  pub id : round.id ≡ entry.id
  pub listed : IsListOfCells round.taken.residue round.list

-- a sequence of at most as many rounds as the first argument states, each on the previous residual and its list.
-- `ended` is true exactly if there are fewer rounds: then no entry of the last list can be cancelled
abbrev pub AreRounds : ℕ → List Sample → List Entry → List Round → Bool → Type 0
AreRounds zero recording list rounds ended = (rounds ≡ []) × (ended ≡ false)
AreRounds (suc most) recording list [] ended = (ended ≡ true) × NoneIsTakenOff recording list
AreRounds (suc most) recording list (round ∷ rest) ended =
    IsRound recording list round × AreRounds most round.taken.residue round.list rest ended

-- `rounds` contains the cell list of `recording` and at most four rounds
pub record IsCancelled (recording : List Sample) (rounds : Rounds) : Type 0 where
  pub listed : IsListOfCells recording rounds.first
  pub follow : AreRounds 4 recording rounds.first rounds.taken.items rounds.ended
