-- Bits in hexadecimal.
use Rattle.std.proofs.Common.{◌≡◌, ℕ, ◌+◌, [], ◌++◌, ap, sym, ◌∙◌}
use Rattle.std.specs.List.{flat_map}
use Rattle.std.proofs.lemmas.List.{flat_map_more}
use Rattle.finite.specs.Lists.{values_below}
use Rattle.finite.proofs.Lists.{values_below_more}
use Rattle.report_parts.specs.Words.{hex_digit}

-- the text extended by one digit
pub hex_more : (f : ℕ → ℕ) (n : ℕ) → flat_map hex_digit (values_below n f) ++ hex_digit (f n) ≡ flat_map hex_digit (values_below (n + 1) f)
hex_more f n = flat_map_more hex_digit [] (values_below n f) (f n) ∙ ap (flat_map hex_digit) (sym (values_below_more n f))
