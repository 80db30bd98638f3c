-- The cells that the rounds cancel in a clean recording. (own)
use Rattle.std.specs.Prelude.{◌≡◌, ◌⊎◌, ℕ, suc, ◌<◌, ◌≤◌, Bool, List, ◌∷◌, ◌++◌, length}
use Rattle.std.specs.List.{Contains}
use Rattle.cs_num.specs.declared.Cpx.{Cpx}
use Rattle.cs_num.specs.declared.Sample.{Sample}
use Rattle.cs_num.specs.Complex.{IsWithin}
use Rattle.lte_types.specs.declared.entry.Entry.{Entry}
use Rattle.lte_types.specs.Timing.{start_of, number_at_start}
use Rattle.sample_file.specs.Recording.{IsRecording}
use Rattle.cell_plan.specs.declared.cell.CellPlan.{CellPlan}
use Rattle.cell_plan.specs.Plan.{IsSendable}
use Rattle.cell_grid.specs.Grid.{Elements}
use Rattle.cell_tx.specs.Clean.{IsClean}
use Rattle.clean_air.specs.Clean.{IsListOfCells}
use Rattle.clean_air.specs.Load.{IsLoaded}
use Rattle.cancel.specs.Residue.{left_at, IsSubtracted, IsLeftWithin}
use Rattle.successive_cancel.specs.declared.round.Round.{Round}
use Rattle.successive_cancel.specs.declared.round.Rounds.{Rounds}
use Rattle.successive_cancel.specs.Rounds.{IsTakenOff, NoneIsTakenOff, AreRounds, IsCancelled}

-- `entry` belongs to the cell of `plan`, whose first frame starts at sample `first` with frame number `number`
pub record IsOfCell (plan : CellPlan) (first number : ℕ) (entry : Entry) : Type 0 where
  pub id : entry.id ≡ plan.identity
  pub start : entry.start ≡ first
  pub sfn : entry.sfn ≡ number

-- `round` cancels the cell of `plan`, and no component of the residual exceeds `most` in magnitude
pub record TakesCell (recording : List Sample) (plan : CellPlan) (start number most : ℕ) (round : Round) : Type 0 where
  pub id : round.id ≡ plan.identity
  pub subtracted : IsSubtracted recording plan start number round.taken
  pub left : IsLeftWithin most round.taken

-- `round` cancels the cell of one of `entries`
pub record TakesOneOf (recording : List Sample) (entries : List Entry) (round : Round) : Type 0 where
  pub entry : Entry
  pub inside : Contains entries entry
  pub id : round.id ≡ entry.id
  pub taken : IsTakenOff recording entry round.taken

-- `list` has an entry for the cell of `plan`, and the first of `rounds` cancels this cell or a cell listed before it;
-- if no cell listed before it can be cancelled, the round cancels the cell of `plan`
pub record IsTakenFirst (recording : List Sample) (list : List Entry) (rounds : List Round) (plan : CellPlan)
    (start number most : ℕ) : Type 0 where
  pub before : List Entry
  pub entry : Entry
  pub after : List Entry
  pub split : list ≡ before ++ entry ∷ after
  pub of_cell : IsOfCell plan start number entry
  pub round : Round
  pub rest : List Round
  pub follows : rounds ≡ round ∷ rest
  pub takes : TakesCell recording plan start number most round ⊎ TakesOneOf recording before round
  pub first : NoneIsTakenOff recording before → TakesCell recording plan start number most round

-- ---- laws

-- if a recording is clean for a cell that can be sent, the first round cancels this cell or a cell listed before it; if
-- it cancels this cell, no residual component exceeds the noise bound `eps`
abbrev pub CleanCellIsTakenFirst : Type 0
CleanCellIsTakenFirst =
    (recording : List Sample) (rounds : Rounds) (plan : CellPlan) (sfn offset : ℕ) (gain : Cpx) (eps : ℕ) →
    IsRecording recording → IsCancelled recording rounds → IsSendable plan →
    IsClean recording plan sfn offset gain eps →
    IsTakenFirst recording rounds.first rounds.taken.items plan (start_of offset) (number_at_start sfn offset) eps

-- if a recording is clean except for load, for a cell that can be sent, the first round cancels this cell or a cell
-- listed before it; if it cancels this cell, no residual component exceeds `most`, a bound up to 32,767 that holds for
-- the true gain's residual
abbrev pub LoadedCellIsTakenFirst : Type 0
LoadedCellIsTakenFirst =
    (recording : List Sample) (rounds : Rounds) (plan : CellPlan) (grid : Elements) (sfn offset : ℕ) (gain : Cpx)
    (eps most : ℕ) → IsRecording recording → IsCancelled recording rounds → IsSendable plan →
    IsLoaded recording plan grid sfn offset gain eps → most ≤ 32767 →
    ((i : ℕ) → i < length recording →
    IsWithin most (left_at recording plan (start_of offset) (number_at_start sfn offset) gain i)) →
    IsTakenFirst recording rounds.first rounds.taken.items plan (start_of offset) (number_at_start sfn offset) most

-- if a residual is clean for a cell that can be sent, the next round, if one is left, cancels this cell or a cell
-- listed before it; if it cancels this cell, no component of the new residual exceeds `eps`
abbrev pub CleanCellIsTakenNext : Type 0
CleanCellIsTakenNext =
    (most : ℕ) (recording : List Sample) (list : List Entry) (rounds : List Round) (ended : Bool) (plan : CellPlan)
    (sfn offset : ℕ) (gain : Cpx) (eps : ℕ) → IsRecording recording → IsListOfCells recording list →
    AreRounds (suc most) recording list rounds ended → IsSendable plan → IsClean recording plan sfn offset gain eps →
    IsTakenFirst recording list rounds plan (start_of offset) (number_at_start sfn offset) eps
