-- The PSS. (TS 36.211 section 6.11.1)
use Rattle.std.specs.Prelude.{ℕ, ◌+◌, ◌-◌, ◌*◌, ◌/◌, List, nat_lt, ◌==◌, if◌then◌else◌}
use Rattle.cs_num.specs.declared.Cpx.{Cpx}
use Rattle.finite.specs.Lists.{values_below}
use Rattle.fold128.specs.Tables.{z_at}

-- the Zadoff-Chu root index for the identity `n2` within the group
abbrev pub root_of : ℕ → ℕ
root_of n2 = if n2 == 0 then 25 else if n2 == 1 then 29 else 34

-- the phase of PSS value `n` in 1/63 of a cycle, divided by minus the root index
abbrev pub turns : ℕ → ℕ
turns n = if nat_lt n 31 then n * (n + 1) / 2 else (n + 1) * (n + 2) / 2

-- PSS value `n`: Z at minus the root index times `turns n`, modulo 63
unfoldable pub pss_at : ℕ → ℕ → Cpx
pss_at n2 n = z_at ((63 - root_of n2) * turns n)

-- the 62 PSS values for the identity `n2` within the group
unfoldable pub pss_list : ℕ → List Cpx
pss_list n2 = values_below 62 (pss_at n2)
