-- The text of the evidence for a list. Numbers are decimal, and every line ends with a line feed. (own)
use Rattle.std.specs.Prelude.{ℕ, ℤ, List, ◌++◌, length, codes}
use Rattle.std.specs.List.{flat_map}
use Rattle.std.specs.Fmt.{decimal, signed_decimal}
use Rattle.evidence.specs.declared.measured.Measured.{Measured}
use Rattle.report_parts.specs.Numbers.{numbers_in}

-- the start of an evidence line: the cell identity, frame start and frame number
abbrev pub entry_part : ℕ → ℕ → ℕ → List ℕ
entry_part id start sfn = decimal id ++ codes " " ++ decimal start ++ codes " " ++ decimal sfn

-- a number preceded by its name
abbrev pub number_part : List ℕ × ℕ → List ℕ
number_part named = codes " " ++ named.0 ++ codes " " ++ decimal named.1

-- the room preceded by its name
abbrev pub room_part : ℤ → List ℕ
room_part room = codes " room " ++ signed_decimal room

-- an entry's line: the numbers that identify the entry, then each number that supports it, after its name
abbrev pub evidence_line : Measured → List ℕ
evidence_line measured =
    let entry = measured.numbers in
    entry_part entry.id entry.start entry.sfn ++ flat_map number_part (numbers_in entry) ++ room_part measured.room
    ++ codes "\n"

-- the first line of the evidence, with the number of entries
abbrev pub evidence_head : ℕ → List ℕ
evidence_head count = codes "evidence " ++ decimal count ++ codes "\n"

-- the text of the evidence: the line with the number of entries, then a line for each entry
unfoldable pub evidence_text : List Measured → List ℕ
evidence_text list = evidence_head (length list) ++ flat_map evidence_line list
