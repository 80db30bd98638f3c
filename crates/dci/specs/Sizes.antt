-- Transport block sizes by modulation and coding scheme, up to 1,000 bits (own tables: the columns for 2 and 3 resource
-- blocks in TS 36.213 section 7.1.7.2.1, without their larger sizes).
use Rattle.std.specs.Prelude.{ℕ, nat_eq, if◌then◌else◌, List, [], ◌∷◌, Option, slice_get}

-- the transport block sizes in column 2, in bits, by modulation and coding scheme
unfoldable pub column_2 : List ℕ
column_2 =
    32 ∷ 56 ∷ 72 ∷ 104 ∷ 120 ∷ 144 ∷ 176 ∷ 224 ∷ 256 ∷ 296 ∷ 328 ∷ 376 ∷ 440 ∷ 488 ∷ 552 ∷ 600 ∷
    632 ∷ 696 ∷ 776 ∷ 840 ∷ 904 ∷ 1000 ∷ []

-- the transport block sizes in column 3, in bits, by modulation and coding scheme
unfoldable pub column_3 : List ℕ
column_3 =
    56 ∷ 88 ∷ 144 ∷ 176 ∷ 208 ∷ 224 ∷ 256 ∷ 328 ∷ 392 ∷ 456 ∷ 504 ∷ 584 ∷ 680 ∷ 744 ∷ 840 ∷ 904 ∷
    968 ∷ []

-- the transport block size in bits for a modulation and coding scheme in a column, 2 or 3, if the table has one
abbrev pub size_of : ℕ → ℕ → Option ℕ
size_of mcs column = slice_get (if nat_eq column 2 then column_2 else column_3) mcs
