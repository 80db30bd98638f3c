-- Cells with a spoken frame, and lists with the sent fields. (own)
use Rattle.std.specs.Prelude.{◌≡◌, ℕ, ◌+◌, ◌%◌, ◌<◌, List, Ok}
use Rattle.std.specs.List.{Contains}
use Rattle.lte_types.specs.declared.entry.Entry.{Entry}
use Rattle.lte_types.specs.declared.sib1.Sib1.{Sib1}
use Rattle.halving.specs.Wide.{Wide, narrowed}
use Rattle.explain.specs.Entries.{with_system}
use Rattle.explain.specs.System.{even_frame, IsTried}
use Rattle.wide_cell.specs.Cell.{Cell}
use Rattle.wide_list.specs.Frames.{slot_at, IsAlone}
use Rattle.wide_spoken.specs.Sent.{Sent}
use Rattle.wide_spoken.specs.Spoken.{IsSpoken}

-- subframe 5 of a cell's frame j sends `sent`, and is spoken
abbrev pub IsFrameSpoken : Wide → Cell → ℕ → ℕ → Sent → ℕ → Type 0
IsFrameSpoken wide cell start sfn sent j =
    IsSpoken (slot_at wide cell start j 10) (slot_at wide cell start j 11) ((sfn + j) % 1024) sent

-- A cell's even-numbered frame i is tried, and is spoken. `earlier`: no earlier even-numbered frame has other fields
-- alone.
pub record IsSystemSpoken (wide : Wide) (cell : Cell) (start sfn : ℕ) (sent : Sent) : Type 0 where
  pub i : ℕ
  pub tried : IsTried (narrowed wide) start sfn i
  pub spoken : IsFrameSpoken wide cell start sfn sent (even_frame sfn i)
  pub earlier :
      (h : ℕ) (fields : Sib1) → h < i → IsAlone wide cell start sfn (even_frame sfn h) (Ok fields) →
      fields ≡ sent.fields

-- a list holds `entry` with SIB1 `fields`, and no other entry with its identity, start and frame number
pub record HoldsWithFields (list : List Entry) (entry : Entry) (fields : Sib1) : Type 0 where
  pub inside : Contains list (with_system entry (Ok fields))
  pub only :
      (other : Entry) → Contains list other → other.id ≡ entry.id → other.start ≡ entry.start →
      other.sfn ≡ entry.sfn → other ≡ with_system entry (Ok fields)
