-- Conditions in order, and the error that each reports when it fails. (own)
use Rattle.std.specs.Prelude.{Bool, if◌then◌else◌, List, [], ◌∷◌, Option, Some, None}
use Rattle.cell_plan.specs.declared.error.CellError.{CellError}

-- A condition, and the error that is reported when the condition fails.
pub record Condition : Type 0 where
  pub holds : Bool
  pub cause : CellError

abbrev pub condition : Bool → CellError → Condition
condition holds cause = record { holds = holds; cause = cause }

-- the error of the first failed condition in the list, or `None` if all conditions hold
abbrev pub first_failed : List Condition → Option CellError
first_failed [] = None
first_failed (c ∷ rest) = if c.holds then first_failed rest else Some c.cause
