-- Transport block sizes of SIB1 (TS 36.213 tables 7.1.7.2.1-1 and 7.1.7.2.3-1).
use Rattle.std.specs.Prelude.{ℕ, Bool, if◌then◌else◌, List, [], ◌∷◌, ◌++◌, slice_index_or}
use Rattle.dci.specs.Sizes.{column_2, column_3}

-- the sizes of format 1A by scheme, 0 to 26: the columns for 2 and 3 resource blocks, of which the power control
-- command's low bit selects one
unfoldable pub sizes_1a : Bool → List ℕ
sizes_1a low =
    if low then column_3 ++ (1064 ∷ 1160 ∷ 1288 ∷ 1384 ∷ 1480 ∷ 1608 ∷ 1736 ∷ 1800 ∷ 1864 ∷ 2216 ∷ [])
    else column_2 ++ (1064 ∷ 1128 ∷ 1192 ∷ 1256 ∷ 1480 ∷ [])

-- the sizes of format 1C by index, 0 to 31
unfoldable pub sizes_1c : List ℕ
sizes_1c =
    40 ∷ 56 ∷ 72 ∷ 120 ∷ 136 ∷ 144 ∷ 176 ∷ 208 ∷ 224 ∷ 256 ∷ 280 ∷ 296 ∷ 328 ∷ 336 ∷ 392 ∷ 488 ∷ 552 ∷ 600 ∷ 632 ∷
    696 ∷ 776 ∷ 840 ∷ 904 ∷ 1000 ∷ 1064 ∷ 1128 ∷ 1224 ∷ 1288 ∷ 1384 ∷ 1480 ∷ 1608 ∷ 1736 ∷ []

-- the size of format 1A for a scheme
abbrev pub size_1a : Bool → ℕ → ℕ
size_1a low mcs = slice_index_or (sizes_1a low) mcs 0

-- the size of format 1C for an index
abbrev pub size_1c : ℕ → ℕ
size_1c index = slice_index_or sizes_1c index 0
