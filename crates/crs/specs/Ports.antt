-- The reference signal positions of all antenna ports (TS 36.211 section 6.10.1.2).
use Rattle.std.specs.Prelude.{ℕ, Bool, nat_lt, if◌then◌else◌}
use Rattle.std.specs.List.{list_any, range_with_len}
use Rattle.lte_types.specs.declared.carrier.Carrier.{Carrier}
use Rattle.lte_types.specs.Carrier.{ports_of}
use Rattle.crs.specs.Reference.{pattern_of, is_pattern_place, is_upper_reference}

-- whether the resource element at `symbol` and subcarrier `k` of a slot carries a reference signal of antenna port
-- `number`
abbrev pub is_reference_by : Carrier → ℕ → ℕ → ℕ → ℕ → ℕ → Bool
is_reference_by carrier number identity slot symbol k =
    if nat_lt number 2 then is_pattern_place (pattern_of carrier number) identity symbol k
    else is_upper_reference number identity slot symbol k

-- whether the resource element at `symbol` and subcarrier `k` of a slot carries a reference signal of any antenna port
abbrev pub is_reference_of_any : Carrier → ℕ → ℕ → ℕ → ℕ → Bool
is_reference_of_any carrier identity slot symbol k =
    list_any (λ number. is_reference_by carrier number identity slot symbol k) (range_with_len 0 (ports_of carrier))
