-- The slots of a frame.
use Rattle.std.proofs.Common.{◌≡◌, ℕ, refl}
use Rattle.halving.specs.Wide.{Wide}
use Rattle.wide_cell.specs.Cell.{Cell}
use Rattle.wide_slot.specs.Slot.{seen_slot}
use Rattle.wide_list.specs.Frames.{slot_at}

pub slot_number : (wide : Wide) (cell : Cell) (start j number : ℕ) → (slot_at wide cell start j number).slot.number ≡ number
unfolding seen_slot
slot_number wide cell start j number = refl
