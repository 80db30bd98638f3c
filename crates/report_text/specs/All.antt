-- Texts for all transmission schemes, such as a recording's cell lists, as one text. (own)
use Rattle.std.specs.Prelude.{ℕ, List, ◌++◌, codes}
use Rattle.std.specs.List.{flat_map}
use Rattle.lte_types.specs.declared.carrier.Carrier.{Carrier}
use Rattle.lte_types.specs.declared.entry.Entry.{Entry}
use Rattle.lte_types.specs.Carrier.{carriers}
use Rattle.report_parts.specs.Words.{rule_word}
use Rattle.report_text.specs.Lines.{report_text}

-- the line above a text, with the name of the text's transmission scheme
abbrev pub rule_line : List ℕ → List ℕ
rule_line word = codes "rule " ++ word ++ codes "\n"

-- a text under the line with the name of its transmission scheme
abbrev pub ruled_text : Carrier → List ℕ → List ℕ
ruled_text carrier text = rule_line (rule_word carrier) ++ text

-- one text per transmission scheme, each under its line, in the order of `carriers`
abbrev pub ruled_texts : (Carrier → List ℕ) → List ℕ
ruled_texts texts = flat_map (λ carrier. ruled_text carrier (texts carrier)) carriers

-- the text of the cell lists for all transmission schemes
abbrev pub all_text : (Carrier → List Entry) → List ℕ
all_text lists = ruled_texts (λ carrier. report_text (lists carrier))
