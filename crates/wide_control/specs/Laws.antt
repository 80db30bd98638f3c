-- Laws of the control channels.
use Rattle.std.specs.Prelude.{◌≡◌, ℕ}
use Rattle.wide_slot.specs.Slot.{WideSeen}
use Rattle.wide_control.specs.Control.{SeenControl, IsControl}

-- the control channels of a subframe say at most one thing
abbrev pub IsOneControl : Type 0
IsOneControl = (slot : WideSeen) (sfn : ℕ) (a b : SeenControl) → IsControl slot sfn a → IsControl slot sfn b → a ≡ b

-- the control channels of a subframe say something
abbrev pub IsSomeControl : Type 0
IsSomeControl = (slot : WideSeen) (sfn : ℕ) → (control : SeenControl) × IsControl slot sfn control
