use Rattle.std.proofs.Common.{◌≡◌}
use Rattle.std.specs.Prelude.{string_bytes}
use Rattle.std.proofs.lemmas.Result.{IfOk-weaker}
use Rattle.report_text.specs.Rounds.{rounds_text, IsCancelText}
use Rattle.report_text.proofs.rounds.cancel_text.Goals as goal

pub returns : goal.returns
returns c =
    IfOk-weaker c.text_of_rounds.result (λ text. string_bytes text ≡ rounds_text c.in_ok-rounds.rounds) (λ text. IsCancelText c.args.recording.now (string_bytes text))
    (λ text is. record { rounds = c.in_ok-rounds.rounds; are = c.in_ok-rounds.ensures; text_is = is }) c.text_of_rounds.ensures
