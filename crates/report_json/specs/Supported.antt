-- The evidence for the cell lists for all transmission schemes as JSON. (own)
use Rattle.std.specs.Prelude.{ℕ, List, map}
use Rattle.std.specs.List.{flat_map, zip}
use Rattle.serde_json.specs.Data.{Data, array, object}
use Rattle.serde_json.specs.View.{items_of}
use Rattle.serde_json.specs.Written.{compact_text}
use Rattle.lte_types.specs.declared.carrier.Carrier.{Carrier}
use Rattle.lte_types.specs.declared.entry.Entry.{Entry}
use Rattle.lte_types.specs.Carrier.{carriers}
use Rattle.evidence.specs.Shown.{Shown}
use Rattle.report_json.specs.All.{ruled_members}
use Rattle.report_json.specs.Evidence.{shown_members}
use Rattle.report_json.specs.declared.supported.SupportedCell.{SupportedCell}

-- a cell list, and what supports each of its entries, in the same order
pub record Supported : Type 0 where
  pub entries : List Entry
  pub shown : List Shown

-- the object for a cell: the members of its object among all lists (`ruled_members`), and what supports the cell
abbrev pub supported_value : Carrier → Entry → Shown → Data
supported_value carrier entry shown = object (shown_members shown (ruled_members carrier entry))

abbrev pub cell_value : SupportedCell → Data
cell_value cell = supported_value cell.rule cell.entry.now cell.support.now

-- the objects for the cells in a list
abbrev pub supported_values : Carrier → Supported → List Data
supported_values carrier list = map (λ cell. supported_value carrier cell.0 cell.1) (zip list.entries list.shown)

-- the objects for the cells in the lists for all transmission schemes, in the order of `carriers`
abbrev pub all_supported : (Carrier → Supported) → List Data
all_supported lists = flat_map (λ carrier. supported_values carrier (lists carrier)) carriers

-- the JSON of the evidence for all lists, without spaces
unfoldable pub supported_json : (Carrier → Supported) → List ℕ
supported_json lists = compact_text (array (items_of (all_supported lists)))
