-- Distributed virtual resource blocks (TS 36.211 section 6.2.3.2), for 6, 15, 25, 50, 75 and 100 resource blocks.
use Rattle.std.specs.Prelude.{ℕ, ◌+◌, ◌-◌, ◌*◌, ◌/◌, ◌%◌, Bool, nat_eq, nat_le, nat_lt, if◌then◌else◌, min}

-- N_gap (table 6.2.3.2-1): the first gap, or the second one, which bandwidths from 50 resource blocks have
abbrev pub gap : ℕ → Bool → ℕ
gap blocks second =
    if second then (if nat_lt blocks 64 then 9 else 16)
    else (if nat_le blocks 10 then (blocks + 1) / 2 else (if nat_le blocks 19 then 8 else (if nat_le blocks 26 then 12
    else (if nat_le blocks 63 then 27 else (if nat_le blocks 79 then 32 else 48)))))

-- N_VRB, the number of distributed virtual resource blocks
abbrev pub virtual_blocks : ℕ → Bool → ℕ
virtual_blocks blocks second =
    if second then blocks / (2 * gap blocks second) * (2 * gap blocks second)
    else 2 * min (gap blocks second) (blocks - gap blocks second)

-- the number of consecutive virtual resource blocks that are interleaved together
abbrev pub unit : ℕ → Bool → ℕ
unit blocks second = if second then 2 * gap blocks second else virtual_blocks blocks second

-- the size of a resource block group (TS 36.213 table 7.1.6.1-1)
abbrev pub group_size : ℕ → ℕ
group_size blocks =
    if nat_le blocks 10 then 1 else (if nat_le blocks 26 then 2 else (if nat_le blocks 63 then 3 else 4))

-- the number of rows of the interleaver, a matrix with four columns that is written row by row and read column by
-- column
abbrev pub rows : ℕ → Bool → ℕ
rows blocks second =
    (unit blocks second + (4 * group_size blocks - 1)) / (4 * group_size blocks) * group_size blocks

-- the number of NULL elements in the interleaver: half in the last rows of column 1, half in the last rows of column 3
abbrev pub nulls : ℕ → Bool → ℕ
nulls blocks second = 4 * rows blocks second - unit blocks second

-- the index after interleaving of virtual resource block v of a unit, in slots with an even number; r is the number of
-- rows, z the number of NULL elements, and u the number of blocks in the unit
abbrev pub interleaved : ℕ → ℕ → ℕ → ℕ → ℕ
interleaved r z u v =
    if nat_lt v (u - z) then r * (v % 4) + v / 4 - (if nat_le 2 (v % 4) then z / 2 else 0)
    else (if nat_eq (v % 2) 1 then r + v / 2 else v / 2 + z / 2 - r)

-- the index in a slot, from index i in slots with an even number: with an odd number half a unit further, cyclically
abbrev pub in_slot : ℕ → Bool → ℕ → ℕ
in_slot u odd i = if odd then (i + u / 2) % u else i

-- the resource block for index i in a slot: the second half of a unit begins at the gap
abbrev pub after_gap : ℕ → ℕ → ℕ → ℕ
after_gap u distance i = if nat_lt i (u / 2) then i else i + distance - u / 2

-- the resource block of distributed virtual resource block v in a slot with an even or odd number
unfoldable pub physical : ℕ → Bool → Bool → ℕ → ℕ
physical blocks second odd v =
    after_gap (unit blocks second) (gap blocks second)
    (in_slot (unit blocks second) odd
    (interleaved (rows blocks second) (nulls blocks second) (unit blocks second) (v % unit blocks second))
    + v / unit blocks second * unit blocks second)
