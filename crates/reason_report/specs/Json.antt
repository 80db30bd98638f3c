-- The reasons why a cell identity is in a cell list, or is not, as JSON: one object, without spaces, whose keys are in
-- byte order. (own)
use Rattle.std.specs.Prelude.{ℕ, List, [], ◌∷◌, ◌++◌, codes}
use Rattle.serde_json.specs.Data.{Data, string}
use Rattle.lte_types.specs.declared.carrier.Carrier.{Carrier}
use Rattle.report_parts.specs.Fields.{NamedData, natural, list_of, object_of, json_of_fields}
use Rattle.report_parts.specs.Words.{rule_word}
use Rattle.reasons.specs.declared.reason.Reason.{Reason}
use Rattle.reason_report.specs.Fields.{rule_of, reason_fields}

-- the object for a reason: its fields, and its rule
abbrev pub reason_value : Reason → Data
reason_value reason = object_of (reason_fields reason ++ (codes "rule", string (rule_of reason)) ∷ [])

-- the cell identity, the name of the list's transmission scheme, and the reasons
abbrev pub why_fields : ℕ → Carrier → List Reason → List NamedData
why_fields id carrier reasons =
    (codes "identity", natural id) ∷
    (codes "list", string (rule_word carrier)) ∷
    (codes "reasons", list_of reason_value reasons) ∷ []

-- the JSON of the reasons why identity `id` is in the list for transmission scheme `carrier`, or is not
unfoldable pub reasons_json : ℕ → Carrier → List Reason → List ℕ
reasons_json id carrier reasons = json_of_fields (why_fields id carrier reasons)
