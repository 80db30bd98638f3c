-- The objects for the cells in a list, pair by pair.
use Rattle.std.proofs.Common.{◌≡◌, List, [], ◌∷◌}
use Rattle.std.proofs.lemmas.List.Concat.{flat_map_single}
use Rattle.std.specs.List.{zip}
use Rattle.serde_json.specs.Data.{Data}
use Rattle.lte_types.specs.declared.carrier.Carrier.{Carrier}
use Rattle.lte_types.specs.declared.entry.Entry.{Entry}
use Rattle.evidence.specs.Shown.{Shown}
use Rattle.report_parts.proofs.Zipped.{put_for}
use Rattle.report_json.specs.Supported.{Supported, supported_value, supported_values}

-- the object for one cell, as a list
abbrev pub one_cell : Carrier → Entry → Shown → List Data
one_cell carrier entry shown = supported_value carrier entry shown ∷ []

pub by_cells : (carrier : Carrier) (list : Supported) → put_for (one_cell carrier) list.entries list.shown ≡ supported_values carrier list
by_cells carrier list = flat_map_single (λ cell. supported_value carrier cell.0 cell.1) (zip list.entries list.shown)
