-- The central 62 of 72 subcarriers, which carry the synchronisation signals. (TS 36.211 sections 6.11.1.2 and
-- 6.11.2.2)
use Rattle.std.specs.Prelude.{ℕ, ◌+◌, ◌-◌, Bool, nat_le, nat_lt, ◌&&◌, if◌then◌else◌}
use Rattle.cs_num.specs.declared.Cpx.{Cpx}
use Rattle.cs_num.specs.Complex.{nothing}

-- the subcarrier for value `n`, 0 to 61, of a synchronisation signal
abbrev pub middle : ℕ → ℕ
middle n = n + 5

-- whether subcarrier `k` is one of the central 62
abbrev pub is_middle : ℕ → Bool
is_middle k = nat_le 5 k && nat_lt k 67

-- the value on subcarrier `k` of a symbol that carries `values` on the central 62 subcarriers and 0 elsewhere
abbrev pub in_middle : (ℕ → Cpx) → ℕ → Cpx
in_middle values k = if nat_lt k 5 then nothing else if nat_lt k 67 then values (k - 5) else nothing
