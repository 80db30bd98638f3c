-- The JSON of rounds contains only whole numbers.
use Rattle.std.proofs.Common.{◌≡◌, false, refl}
use Rattle.std.proofs.lemmas.Bool.{or_from}
use Rattle.serde_json.specs.Written.{has_float}
use Rattle.successive_cancel.specs.declared.round.Round.{Round}
use Rattle.successive_cancel.specs.declared.round.Rounds.{Rounds}
use Rattle.cell_plan.specs.Pair.{gain_of}
use Rattle.report_json.specs.Cells.{entry_value}
use Rattle.report_json.proofs.Floats.{in_complex, in_list, in_entry}
use Rattle.report_json.specs.Rounds.{round_value, rounds_value}

in_round : (round : Round) → has_float (round_value round) ≡ false
in_round round = or_from _ _ (in_list entry_value in_entry round.list) (or_from _ _ (in_complex (gain_of round.taken.gain)) refl)

pub in_rounds : (rounds : Rounds) → has_float (rounds_value rounds) ≡ false
in_rounds rounds = or_from _ _ (in_list entry_value in_entry rounds.first) (or_from _ _ (in_list round_value in_round rounds.taken.items) refl)
