-- A recording's cell lists for all transmission schemes, as JSON. (own)
use Rattle.std.specs.Prelude.{ℕ, List, map, codes}
use Rattle.std.specs.List.{flat_map}
use Rattle.serde_json.specs.Data.{Data, string, array, object, Members, put}
use Rattle.serde_json.specs.View.{items_of}
use Rattle.serde_json.specs.Written.{compact_text}
use Rattle.lte_types.specs.declared.carrier.Carrier.{Carrier}
use Rattle.lte_types.specs.declared.entry.Entry.{Entry}
use Rattle.lte_types.specs.Carrier.{carriers}
use Rattle.report_parts.specs.Words.{rule_word}
use Rattle.report_json.specs.Cells.{entry_members}

-- the members of a cell's object, with the name of its list's transmission scheme (key `rule`)
abbrev pub ruled_members : Carrier → Entry → Members
ruled_members carrier entry = put (codes "rule") (string (rule_word carrier)) (entry_members entry)

abbrev pub ruled_value : Carrier → Entry → Data
ruled_value carrier entry = object (ruled_members carrier entry)

-- the objects for the cells in a list, each with the name of the list's transmission scheme (key `rule`)
abbrev pub ruled_values : Carrier → List Entry → List Data
ruled_values carrier entries = map (ruled_value carrier) entries

-- the array of the cells in the lists for all transmission schemes, in the order of `carriers`
abbrev pub all_value : (Carrier → List Entry) → Data
all_value lists = array (items_of (flat_map (λ carrier. ruled_values carrier (lists carrier)) carriers))

-- the JSON of the lists for all transmission schemes, without spaces
unfoldable pub all_json : (Carrier → List Entry) → List ℕ
all_json lists = compact_text (all_value lists)
