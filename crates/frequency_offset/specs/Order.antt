-- The order in which offsets are tried. (own)
use Rattle.std.specs.Prelude.{ℕ, ◌/◌, ◌%◌, nat_eq, if◌then◌else◌, ℤ, pos, negsuc}

-- the integers by magnitude, negative first: 0, -1, 1, -2, 2, ..
unfoldable pub by_magnitude : ℕ → ℤ
by_magnitude k = if nat_eq (k % 2) 0 then pos (k / 2) else negsuc (k / 2)
