-- Interference cancellation as JSON. An object's keys are in byte order. (own)
use Rattle.std.specs.Prelude.{◌≡◌, ℕ, List, [], ◌∷◌, codes}
use Rattle.serde_json.specs.Data.{Data, boolean, object, member, no_members}
use Rattle.serde_json.specs.Written.{compact_text}
use Rattle.cs_num.specs.declared.Sample.{Sample}
use Rattle.cell_plan.specs.Pair.{gain_of}
use Rattle.successive_cancel.specs.declared.round.Round.{Round}
use Rattle.successive_cancel.specs.declared.round.Rounds.{Rounds}
use Rattle.successive_cancel.specs.Rounds.{IsCancelled}
use Rattle.report_parts.specs.Fields.{natural, list_of}
use Rattle.report_json.specs.Cells.{report_value}
use Rattle.report_json.specs.Evidence.{complex_value}
use Rattle.report_parts.specs.Words.{power_word}

-- the array with a recording's power before and after cancellation
abbrev pub powers_value : ℕ → ℕ → Data
powers_value before after = list_of natural (before ∷ after ∷ [])

-- the object for a round: the cancelled cell's identity and gain, the residual's largest component magnitude, the power
-- before and after cancellation, and the residual's cell list
abbrev pub round_value : Round → Data
round_value round = object (
    member (codes "cells") (report_value round.list) (
    member (codes "gain") (complex_value (gain_of round.taken.gain)) (
    member (codes "identity") (natural round.id) (
    member (codes "power") (powers_value (power_word round.taken.before) (power_word round.taken.after)) (
    member (codes "residue") (natural round.taken.greatest) no_members)))))

-- the object with a recording's cell list, its rounds, and whether the last round found no cell to cancel
abbrev pub rounds_value : Rounds → Data
rounds_value rounds = object (
    member (codes "cells") (report_value rounds.first) (
    member (codes "ended") (boolean rounds.ended) (
    member (codes "rounds") (list_of round_value rounds.taken.items) no_members)))

-- the JSON of a cell list and its rounds, without spaces
unfoldable pub rounds_json : Rounds → List ℕ
rounds_json rounds = compact_text (rounds_value rounds)

-- `text` is the JSON of the interference cancellation in `recording`
pub record IsCancelJson (recording : List Sample) (text : List ℕ) : Type 0 where
  pub rounds : Rounds
  pub are : IsCancelled recording rounds
  pub text_is : text ≡ rounds_json rounds

-- a law: the JSON of a recording's interference cancellation is unique
abbrev pub IsOneCancelJson : Type 0
IsOneCancelJson =
    (recording : List Sample) (a b : List ℕ) → IsCancelJson recording a → IsCancelJson recording b → a ≡ b
