use Rattle.std.proofs.Common.{◌≡◌, take, string_bytes}
use Rattle.report_parts.specs.Words.{digits_word}
use Rattle.report_parts.proofs.words.digits_word.Given as goal

abbrev pub invariant-loop-digit : goal.invariant-loop-digit
invariant-loop-digit l = string_bytes l.text ≡ digits_word (take l.digit-index l.digits)
