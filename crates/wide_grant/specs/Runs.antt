-- Consecutive resource blocks, and the resource indication value for any block count (TS 36.213 section 7.1.6.3).
use Rattle.std.specs.Prelude.{ℕ, ◌+◌, ◌-◌, ◌*◌, ◌/◌, ◌%◌, ◌^◌, nat_le, if◌then◌else◌}
use Rattle.std.specs.List.{position_or_len, range_with_len}
use Rattle.wide_grant.specs.declared.run.Run.{Run}

-- the number of runs of consecutive blocks among `count` blocks
abbrev pub run_count : ℕ → ℕ
run_count count = count * (count + 1) / 2

-- the minimum number of bits that distinguish n values, at most 13
abbrev pub bits_for : ℕ → ℕ
bits_for n = position_or_len (λ b. nat_le n (2 ^ b)) (range_with_len 0 13)

-- the run, among `count` blocks, with a resource indication value below `run_count count`
abbrev pub run_of : ℕ → ℕ → Run
run_of count value =
    if nat_le (value % count + (value / count + 1)) count
    then record { start = value % count; blocks = value / count + 1 }
    else record { start = count - 1 - value % count; blocks = count + 2 - (value / count + 1) }
