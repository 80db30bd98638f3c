-- The text of the answers to certificates. Numbers are decimal, and every line ends with a line feed. (own)
use Rattle.std.specs.Prelude.{ℕ, suc, List, [], ◌∷◌, ◌++◌, length, codes, Bool, true, false}
use Rattle.std.specs.Fmt.{decimal}

abbrev pub answer_word : Bool → List ℕ
answer_word true = codes "yes"
answer_word false = codes "no"

-- a certificate's line: its index from 0, and whether it is accepted
abbrev pub answer_line : ℕ → Bool → List ℕ
answer_line number answer = decimal number ++ codes " " ++ answer_word answer ++ codes "\n"

-- the lines of answers to consecutive certificates, the first of which has index `number`
unfoldable pub answer_lines : ℕ → List Bool → List ℕ
answer_lines number [] = []
answer_lines number (answer ∷ rest) = answer_line number answer ++ answer_lines (suc number) rest

abbrev pub check_head : ℕ → List ℕ
check_head count = codes "certificates " ++ decimal count ++ codes "\n"

-- the number of certificates, followed by a line for each
unfoldable pub check_text : List Bool → List ℕ
check_text answers = check_head (length answers) ++ answer_lines 0 answers
