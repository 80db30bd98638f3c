use Rattle.std.proofs.Common.{◌≡◌, ◌++◌, drop, string_bytes}
use Rattle.report_text.specs.Answers.{answer_lines, check_text}
use Rattle.report_text.proofs.answers.text_of_answers.Given as goal

abbrev pub invariant-loop-number : goal.invariant-loop-number
invariant-loop-number l = string_bytes l.text ++ answer_lines l.number (drop l.number l.answers) ≡ check_text l.answers
