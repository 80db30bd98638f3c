-- Physical-layer cell identities.
use Rattle.std.specs.Prelude.{ℕ, ◌+◌, ◌*◌}

-- the cell identity with group `n1`, 0 to 167, and identity `n2` within the group, 0 to 2 (TS 36.211 section 6.11)
abbrev pub cell_of : ℕ → ℕ → ℕ
cell_of n1 n2 = 3 * n1 + n2
