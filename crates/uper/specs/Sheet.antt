-- Encodings appended one after the other, up to 1,000 bits in all.
use Rattle.std.specs.Prelude.{◌≡◌, ◌-◌, nat_le, if◌then◌else◌, Bool, List, ◌++◌, length, Option, Some, None}
use Rattle.uper.specs.Grammar.{Grammar}
use Rattle.uper.specs.Texts.{IsText}

-- the bits so far with `more` appended, or None if they did not all fit
abbrev pub append : Option (List Bool) → List Bool → Option (List Bool)
append None more = None
append (Some bits) more = if nat_le (length more) (1000 - length bits) then Some (bits ++ more) else None

-- an encoding of `value` was appended to the sheet `old`, which gave the sheet `new`
pub record Puts {A : Type 0} (grammar : Grammar A) (value : A) (old new : Option (List Bool)) : Type 0 where
  pub text : List Bool
  pub is_text : IsText grammar text value
  pub put : new ≡ append old text
