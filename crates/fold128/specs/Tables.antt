-- The tables W and Z: integers near 16384 and 127 times the 128th and the 63rd roots of unity. (own)
use Rattle.std.specs.Prelude.{ℕ, ◌+◌, ◌-◌, ◌%◌, List, [], ◌∷◌, ℤ, pos, negsuc, neg_ℤ, nat_le, if◌then◌else◌, slice_index, slice_index_or}
use Rattle.cs_num.specs.declared.Cpx.{Cpx}
use Rattle.cs_num.specs.Complex.{conjugate}

-- C(0) to C(32), where C(m) approximates 16384 cos(2 pi m / 128)
unfoldable pub quarter : List ℕ
quarter =
    16384 ∷ 16364 ∷ 16305 ∷ 16207 ∷ 16069 ∷ 15893 ∷ 15679 ∷ 15426 ∷ 15137 ∷ 14811 ∷ 14449 ∷ 14053 ∷ 13623 ∷ 13160 ∷
    12665 ∷ 12140 ∷ 11585 ∷ 11003 ∷ 10394 ∷ 9760 ∷ 9102 ∷ 8423 ∷ 7723 ∷ 7005 ∷ 6270 ∷ 5520 ∷ 4756 ∷ 3981 ∷ 3196 ∷
    2404 ∷ 1606 ∷ 804 ∷ 0 ∷ []

-- C over half a period, 0 to 64: C(64 - m) = -C(m)
abbrev pub half_turn : ℕ → ℤ
half_turn m = if nat_le m 32 then pos (slice_index quarter m) else neg_ℤ (pos (slice_index quarter (64 - m)))

-- the index from 0 to 64 at which C has the same value: C has period 128 and is even
abbrev pub folded : ℕ → ℕ
folded m = if nat_le (m % 128) 64 then m % 128 else 128 - m % 128

-- C(m), for any index m
unfoldable pub cosine : ℕ → ℤ
cosine m = half_turn (folded m)

-- W(m) = C(m) + j * C(m - 32)
unfoldable pub w_at : ℕ → Cpx
w_at m = record { re = cosine m; im = cosine (m + 96) }

-- the real parts of Z(0) to Z(31)
unfoldable pub z_real : List ℤ
z_real =
    pos 127 ∷ pos 126 ∷ pos 124 ∷ pos 121 ∷ pos 117 ∷ pos 112 ∷ pos 105 ∷ pos 97 ∷ pos 89 ∷ pos 79 ∷ pos 69 ∷ pos 58 ∷
    pos 46 ∷ pos 34 ∷ pos 22 ∷ pos 9 ∷ negsuc 2 ∷ negsuc 15 ∷ negsuc 27 ∷ negsuc 39 ∷ negsuc 51 ∷ negsuc 63 ∷
    negsuc 73 ∷ negsuc 83 ∷ negsuc 92 ∷ negsuc 100 ∷ negsuc 107 ∷ negsuc 113 ∷ negsuc 118 ∷ negsuc 122 ∷ negsuc 125 ∷
    negsuc 126 ∷ []

-- the imaginary parts of Z(0) to Z(31)
unfoldable pub z_imaginary : List ℤ
z_imaginary =
    pos 0 ∷ pos 13 ∷ pos 25 ∷ pos 37 ∷ pos 49 ∷ pos 61 ∷ pos 72 ∷ pos 82 ∷ pos 91 ∷ pos 99 ∷ pos 107 ∷ pos 113 ∷
    pos 118 ∷ pos 122 ∷ pos 125 ∷ pos 127 ∷ pos 127 ∷ pos 126 ∷ pos 124 ∷ pos 120 ∷ pos 116 ∷ pos 110 ∷ pos 103 ∷
    pos 95 ∷ pos 86 ∷ pos 77 ∷ pos 66 ∷ pos 55 ∷ pos 43 ∷ pos 31 ∷ pos 19 ∷ pos 6 ∷ []

-- Z(0) to Z(31)
abbrev pub z_half : ℕ → Cpx
z_half m = record { re = slice_index_or z_real m (pos 0); im = slice_index_or z_imaginary m (pos 0) }

-- Z has period 63, and Z(63 - m) is the conjugate of Z(m)
unfoldable pub z_at : ℕ → Cpx
z_at m = if nat_le (m % 63) 31 then z_half (m % 63) else conjugate (z_half (63 - m % 63))
