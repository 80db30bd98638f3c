-- The steps of the code. (own)
use Rattle.std.specs.Prelude.{Option, Some, None, List}
use Rattle.cs_num.specs.declared.Sample.{Sample}
use Rattle.lte_types.specs.declared.entry.Entry.{Entry}
use Rattle.cancel.specs.declared.subtracted.Subtracted.{Subtracted}
use Rattle.successive_cancel.specs.declared.round.Round.{Round}
use Rattle.successive_cancel.specs.Rounds.{IsTakenOff, NoneIsTakenOff, IsRound}

-- the result of cancelling an entry's cell, or `None` if the cell cannot be cancelled
abbrev pub IsTakenIf : List Sample → Entry → Option Subtracted → Type 0
IsTakenIf recording entry (Some taken) = IsTakenOff recording entry taken
IsTakenIf recording entry None = (taken : Subtracted) → IsTakenOff recording entry taken → ⊥

-- the next round, or `None` if no entry in `list` can be cancelled
abbrev pub IsNextRound : List Sample → List Entry → Option Round → Type 0
IsNextRound recording list (Some round) = IsRound recording list round
IsNextRound recording list None = NoneIsTakenOff recording list
