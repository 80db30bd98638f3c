-- The text of interference cancellation. (own)
use Rattle.std.specs.Prelude.{◌≡◌, ℕ, if◌then◌else◌, List, [], ◌++◌}
use Rattle.std.specs.List.{flat_map}
use Rattle.cs_num.specs.declared.Sample.{Sample}
use Rattle.cell_plan.specs.Pair.{gain_of}
use Rattle.successive_cancel.specs.declared.round.Round.{Round}
use Rattle.successive_cancel.specs.declared.round.Rounds.{Rounds}
use Rattle.successive_cancel.specs.Rounds.{IsCancelled}
use Rattle.report_parts.specs.Words.{power_word}
use Rattle.report_text.specs.Lines.{report_text}
use Rattle.report_text.specs.Cancelled.{cancelled_lines, cancelled_none}

-- the text of a round: the lines for the cancelled cell, then the cell list of the residual
abbrev pub round_text : Round → List ℕ
round_text round =
    cancelled_lines round.id (gain_of round.taken.gain) round.taken.greatest (power_word round.taken.before)
    (power_word round.taken.after)
    ++ report_text round.list

-- the text of interference cancellation: the recording's cell list, each round, and a line if the last round found no
-- cell to cancel
abbrev pub rounds_text : Rounds → List ℕ
rounds_text rounds =
    report_text rounds.first ++ flat_map round_text rounds.taken.items ++ (if rounds.ended then cancelled_none else [])

-- `text` reports the interference cancellation in `recording`
pub record IsCancelText (recording : List Sample) (text : List ℕ) : Type 0 where
  pub rounds : Rounds
  pub are : IsCancelled recording rounds
  pub text_is : text ≡ rounds_text rounds

-- a law: the text of a recording's interference cancellation is unique
abbrev pub IsOneCancelText : Type 0
IsOneCancelText =
    (recording : List Sample) (a b : List ℕ) → IsCancelText recording a → IsCancelText recording b → a ≡ b
