-- Contiguous pieces of a text. (own)
use Rattle.std.specs.Prelude.{◌≡◌, ℕ, List, ◌++◌}
use Rattle.std.specs.List.{Contains}
use Rattle.lte_types.specs.declared.entry.Entry.{Entry}
use Rattle.report_text.specs.Lines.{entry_lines, report_text}

-- `piece` occurs in `text` as one contiguous part
pub record IsPiece (piece text : List ℕ) : Type 0 where
  pub before : List ℕ
  pub after : List ℕ
  pub split : text ≡ before ++ piece ++ after

-- a law: the lines of each listed cell are one contiguous part of the list's text
abbrev pub ListedLinesStand : Type 0
ListedLinesStand =
    (entries : List Entry) (entry : Entry) → Contains entries entry → IsPiece (entry_lines entry) (report_text entries)
