-- Text as a line. (own)
use Rattle.std.specs.Prelude.{◌≡◌, ℕ, List, ◌++◌, codes}

-- a text followed by a line feed
abbrev pub as_line : List ℕ → List ℕ
as_line text = text ++ codes "\n"

-- `line` is a text that satisfies `Is`, followed by a line feed
pub record IsLine (Is : List ℕ → Type 0) (line : List ℕ) : Type 0 where
  pub text : List ℕ
  pub is : Is text
  pub line_is : line ≡ as_line text
