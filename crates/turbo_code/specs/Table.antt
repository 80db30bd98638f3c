-- The table of block sizes and interleaver coefficients (TS 36.212 section 5.1.3.2.3).
use Rattle.std.specs.Prelude.{ℕ, ◌+◌, ◌*◌, ◌%◌, ◌≡◌, ◌⊎◌, List, [], ◌∷◌, nat_eq}
use Rattle.std.specs.List.{Contains, position_or_len, range_with_len}
use Rattle.turbo_code.specs.declared.rows.Row.{Row}

-- the table row with block size `k` and interleaver coefficients `f1` and `f2`
abbrev pub row : ℕ → ℕ → ℕ → Row
row k f1 f2 = record { k = k; f1 = f1; f2 = f2 }

-- the rows in use: block size K and interleaver coefficients f1 and f2
unfoldable pub rows : List Row
rows =
    row 56 19 42 ∷ row 80 11 20 ∷ row 96 11 24 ∷ row 112 41 84 ∷
    row 128 15 32 ∷ row 144 17 108 ∷ row 168 101 84 ∷ row 200 13 50 ∷
    row 232 85 58 ∷ row 248 33 62 ∷ row 280 103 210 ∷ row 320 21 120 ∷
    row 352 21 44 ∷ row 400 151 40 ∷ row 416 25 52 ∷ row 464 247 58 ∷
    row 480 89 180 ∷ row 512 31 64 ∷ row 528 17 66 ∷ row 576 65 96 ∷
    row 608 37 76 ∷ row 624 41 234 ∷ row 656 185 82 ∷ row 704 155 44 ∷
    row 720 79 120 ∷ row 768 217 48 ∷ row 800 17 80 ∷ row 864 17 48 ∷
    row 928 15 58 ∷ row 992 65 124 ∷ row 1024 31 64 ∷ []

-- `r` is a row in use
abbrev pub IsRow : Row → Type 0
IsRow r = Contains rows r

-- `k` is the block size of a row in use
abbrev pub IsSize : ℕ → Type 0
IsSize k = (r : Row) × Contains rows r × (r.k ≡ k)

-- the further rows, for the transport block sizes 40, 136, 280 and 336 of DCI format 1C (TS 36.213 table 7.1.7.2.3-1):
-- block size K and interleaver coefficients f1 and f2
unfoldable pub further_rows : List Row
further_rows = row 64 7 16 ∷ row 160 21 120 ∷ row 304 37 76 ∷ row 360 133 90 ∷ []

-- `r` is a further row
abbrev pub IsFurtherRow : Row → Type 0
IsFurtherRow r = Contains further_rows r

-- `k` is the block size of a further row
abbrev pub IsFurtherSize : ℕ → Type 0
IsFurtherSize k = (r : Row) × Contains further_rows r × (r.k ≡ k)

-- `r` is a row in use or a further row
abbrev pub IsAnyRow : Row → Type 0
IsAnyRow r = IsRow r ⊎ IsFurtherRow r

-- `k` is the block size of a row in use or of a further row
abbrev pub IsAnySize : ℕ → Type 0
IsAnySize k = IsSize k ⊎ IsFurtherSize k

-- the index of the information bit that the second encoder reads at step i
unfoldable pub interleaver : Row → ℕ → ℕ
interleaver r i = (r.f1 * i + r.f2 * i * i) % r.k

-- the step at which the second encoder reads information bit `k`: the inverse of the interleaver
abbrev pub step_of : Row → ℕ → ℕ
step_of r k = position_or_len (λ i. nat_eq (interleaver r i) k) (range_with_len 0 r.k)
