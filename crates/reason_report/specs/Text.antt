-- The text of the reasons why a cell identity is in a cell list, or is not. Numbers are decimal, and every line ends
-- with a line feed. (own)
use Rattle.std.specs.Prelude.{ℕ, List, ◌++◌, length, codes}
use Rattle.std.specs.List.{flat_map}
use Rattle.std.specs.Fmt.{decimal}
use Rattle.lte_types.specs.declared.carrier.Carrier.{Carrier}
use Rattle.report_parts.specs.Fields.{line_of_fields}
use Rattle.report_parts.specs.Words.{rule_word}
use Rattle.reasons.specs.declared.reason.Reason.{Reason}
use Rattle.reason_report.specs.Fields.{rule_of, reason_fields}

-- the line for a reason: its rule, then its fields
abbrev pub reason_line : Reason → List ℕ
reason_line reason = line_of_fields (rule_of reason) (reason_fields reason)

-- the first line: the cell identity, the name of the list's transmission scheme, and the number of reasons
abbrev pub reasons_head : ℕ → List ℕ → ℕ → List ℕ
reasons_head id rule count =
    codes "why " ++ decimal id ++ codes " " ++ rule ++ codes " " ++ decimal count ++ codes "\n"

-- the text of the reasons why identity `id` is in the list for transmission scheme `carrier`, or is not
unfoldable pub reasons_text : ℕ → Carrier → List Reason → List ℕ
reasons_text id carrier reasons = reasons_head id (rule_word carrier) (length reasons) ++ flat_map reason_line reasons
