-- The resource indication value with six resource blocks (TS 36.213 section 7.1.6.3).
use Rattle.std.specs.Prelude.{ℕ, ◌+◌, ◌-◌, ◌*◌, nat_le, if◌then◌else◌}

-- the resource indication value for `blocks` resource blocks from `start`
abbrev pub riv_of : ℕ → ℕ → ℕ
riv_of start blocks =
    if nat_le blocks 4 then 6 * (blocks - 1) + start else 6 * (7 - blocks) + (5 - start)
