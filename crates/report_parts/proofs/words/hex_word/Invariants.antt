use Rattle.std.proofs.Common.{◌≡◌, string_bytes}
use Rattle.std.specs.List.{flat_map}
use Rattle.finite.specs.Lists.{values_below}
use Rattle.report_parts.specs.Words.{nibble, hex_digit}
use Rattle.report_parts.proofs.words.hex_word.Given as goal

abbrev pub invariant-loop-i : goal.invariant-loop-i
invariant-loop-i l = string_bytes l.text ≡ flat_map hex_digit (values_below l.i (nibble l.bits))
