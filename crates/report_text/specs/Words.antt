-- The words in a text report. (own; the names come from TS 36.331 sections 6.2.2 and 6.3)
use Rattle.std.specs.Prelude.{ℕ, if◌then◌else◌, Bool, Option, Some, None, List, [], ◌∷◌, ◌++◌, codes}
use Rattle.std.specs.List.{flat_map}
use Rattle.std.specs.Fmt.{decimal}

-- the text of a value, or a dash if it is absent
abbrev pub or_dash : {A : Type 0} → (A → List ℕ) → Option A → List ℕ
or_dash text None = codes "-"
or_dash text (Some value) = text value

-- the text `first` if `flag` is true, otherwise `second`
abbrev pub either : Bool → List ℕ → List ℕ → List ℕ
either flag first second = if flag then first else second

abbrev pub bit_word : Bool → List ℕ
bit_word flag = either flag (codes "1") (codes "0")

-- the word for cellBarred: `barred` if true
abbrev pub barred_word : Bool → List ℕ
barred_word flag = either flag (codes "barred") (codes "open")

-- the word for intraFreqReselection: `allowed` if true
abbrev pub intra_word : Bool → List ℕ
intra_word flag = either flag (codes "allowed") (codes "forbidden")

-- the word for cellReservedForOperatorUse: `reserved` if true
abbrev pub reserved_word : Bool → List ℕ
reserved_word flag = either flag (codes "reserved") (codes "free")

-- the text of a TDD configuration: subframeAssignment and specialSubframePatterns
abbrev pub tdd_word : ℕ × ℕ → List ℕ
tdd_word config = decimal config.0 ++ codes "/" ++ decimal config.1

-- the text of system information block codes, separated by commas, or a dash if there are none
abbrev pub sibs_word : List ℕ → List ℕ
sibs_word [] = codes "-"
sibs_word (first ∷ rest) = decimal first ++ flat_map (λ code. codes "," ++ decimal code) rest
