use Rattle.std.proofs.Common.{◌≡◌}
use Rattle.std.specs.Prelude.{string_bytes}
use Rattle.std.proofs.lemmas.Result.{IfOk-weaker}
use Rattle.report_json.specs.Rounds.{rounds_json, IsCancelJson}
use Rattle.report_json.proofs.rounds.cancel_json.Goals as goal

pub returns : goal.returns
returns c =
    IfOk-weaker c.json_of_rounds.result (λ text. string_bytes text ≡ rounds_json c.in_ok-rounds.rounds) (λ text. IsCancelJson c.args.recording.now (string_bytes text))
    (λ text is. record { rounds = c.in_ok-rounds.rounds; are = c.in_ok-rounds.ensures; text_is = is }) c.json_of_rounds.ensures
