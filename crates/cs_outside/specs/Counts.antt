-- Saturating counts of faults and of calls, from 0 to 2^64 - 1 (own).
use Rattle.std.specs.Prelude.{ℕ, ◌+◌, ◌-◌, ◌^◌, ◌≤◌, min}

-- the maximum, at which a count saturates
abbrev pub last_count : ℕ
last_count = 2 ^ 64 - 1

-- a count plus one, saturating
abbrev pub next_count : ℕ → ℕ
next_count count = min (count + 1) last_count

-- a count rose from `before` to `now`, or is saturated
abbrev pub Rose : ℕ → ℕ → Type 0
Rose before now = next_count before ≤ now
