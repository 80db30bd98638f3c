-- Cell-specific reference signals, per antenna port (TS 36.211 section 6.10.1).
use Rattle.std.specs.Prelude.{ℕ, ◌+◌, ◌-◌, ◌*◌, ◌/◌, ◌%◌, ◌^◌, ◌<◌, ◌≤◌, Bool, ◌&&◌, ◌||◌, nat_eq, if◌then◌else◌}
use Rattle.std.specs.Prelude.{List, map}
use Rattle.std.specs.List.{range_with_len}
use Rattle.cs_num.specs.declared.Cpx.{Cpx}
use Rattle.lte_types.specs.declared.carrier.Carrier.{Carrier}
use Rattle.lte_types.specs.Carrier.{prefix_of}
use Rattle.lte_types.specs.Numerology.{symbols_of_slot, is_extended}
use Rattle.gold.specs.Gold.{gold_bit}
use Rattle.crs.specs.Qpsk.{point}
use Rattle.crs.specs.declared.pattern.Pattern.{Pattern}

-- the pattern of port 0 with the normal prefix, which definitions without a pattern parameter use
abbrev pub port_0 : Pattern
port_0 = record { later = 4; shift = 0; prefix = 1 }

-- the pattern of port 1 with the normal prefix
abbrev pub port_1 : Pattern
port_1 = record { later = 4; shift = 3; prefix = 1 }

-- the pattern of port 0 with the extended prefix
abbrev pub long_prefix : Pattern
long_prefix = record { later = 3; shift = 0; prefix = 0 }

-- the pattern for port 0 or 1: the later symbol is N_symb - 3, and v in symbol 0 is 0 for port 0 and 3 for port 1
-- (section 6.10.1.2); N_CP is 1 with the normal prefix and 0 with the extended one (section 6.10.1.1)
abbrev pub pattern_of : Carrier → ℕ → Pattern
pattern_of carrier port = record {
  later = symbols_of_slot (prefix_of carrier) - 3;
  shift = 3 * port;
  prefix = if is_extended (prefix_of carrier) then 0 else 1;
}

-- ---- for any pattern

-- a valid pattern: the later symbol is inside the slot, v is 0 to 3, and N_CP is 0 or 1
pub record IsPattern (pattern : Pattern) : Type 0 where
  pub later : (0 < pattern.later) × (pattern.later < 7)
  pub shift : pattern.shift ≤ 3
  pub prefix : pattern.prefix ≤ 1

-- c_init of the reference signal sequence in a symbol of a slot (section 6.10.1.1)
abbrev pub pattern_c_init : Pattern → ℕ → ℕ → ℕ → ℕ
pattern_c_init pattern identity slot symbol =
    2 ^ 10 * (7 * (slot + 1) + symbol + 1) * (2 * identity + 1) + 2 * identity + pattern.prefix

-- reference signal value `m` in a symbol for `blocks` resource blocks. The sequence is defined for 110 blocks, and a
-- narrower carrier uses its middle: bits 2(m + 110 - blocks) and 2(m + 110 - blocks) + 1.
abbrev pub value_of_width : ℕ → (ℕ → Bool) → ℕ → Cpx
value_of_width blocks bit m = point (bit (2 * (m + (110 - blocks)))) (bit (2 * (m + (110 - blocks)) + 1))

-- reference signal value `m` in a symbol for six resource blocks
abbrev pub value_by : (ℕ → Bool) → ℕ → Cpx
value_by = value_of_width 6

-- the first subcarrier with a reference signal of `pattern` in a symbol (section 6.10.1.2)
abbrev pub pattern_first : Pattern → ℕ → ℕ → ℕ
pattern_first pattern identity symbol =
    ((if nat_eq symbol 0 then pattern.shift else 3 - pattern.shift) + identity) % 6

-- whether a symbol of a slot has reference signals of `pattern`
abbrev pub has_pilots : Pattern → ℕ → Bool
has_pilots pattern symbol = nat_eq symbol 0 || nat_eq symbol pattern.later

-- whether the resource element at `symbol` and subcarrier `k` carries a reference signal of `pattern`: every sixth
-- subcarrier in two symbols of a slot does
abbrev pub is_pattern_place : Pattern → ℕ → ℕ → ℕ → Bool
is_pattern_place pattern identity symbol k =
    has_pilots pattern symbol && nat_eq (k % 6) (pattern_first pattern identity symbol)

-- the subcarrier for reference signal value `m`, 0 to 11, of `pattern`
abbrev pub pattern_subcarrier : Pattern → ℕ → ℕ → ℕ → ℕ
pattern_subcarrier pattern identity symbol m = 6 * m + pattern_first pattern identity symbol

-- reference signal value `m`, 0 to 11, of `pattern` in a symbol of a slot
unfoldable pub pattern_reference : Pattern → ℕ → ℕ → ℕ → ℕ → Cpx
pattern_reference pattern identity slot symbol m = value_by (gold_bit (pattern_c_init pattern identity slot symbol)) m

-- reference signal value `m` of `pattern` in a symbol, with its subcarrier
abbrev pub pattern_pair : Pattern → ℕ → ℕ → ℕ → ℕ → ℕ × Cpx
pattern_pair pattern identity slot symbol m =
    (pattern_subcarrier pattern identity symbol m, pattern_reference pattern identity slot symbol m)

-- the twelve pilots of `pattern` in a symbol, as subcarriers and values
unfoldable pub pattern_list : Pattern → ℕ → ℕ → ℕ → List (ℕ × Cpx)
pattern_list pattern identity slot symbol = map (pattern_pair pattern identity slot symbol) (range_with_len 0 12)

-- ---- for port 0 with the normal prefix

-- c_init of the reference signal sequence of port 0 in a symbol of a slot
unfoldable pub reference_c_init : ℕ → ℕ → ℕ → ℕ
reference_c_init identity slot symbol = pattern_c_init port_0 identity slot symbol

-- reference signal value `m`, 0 to 11, of port 0 in a symbol of a slot
unfoldable pub reference : ℕ → ℕ → ℕ → ℕ → Cpx
reference identity slot symbol m = value_by (gold_bit (reference_c_init identity slot symbol)) m

-- the first subcarrier with a reference signal of port 0: v is 0 in symbol 0 and 3 in symbol 4
unfoldable pub first_subcarrier : ℕ → ℕ → ℕ
first_subcarrier identity symbol = pattern_first port_0 identity symbol

-- the subcarrier for reference signal value `m`, 0 to 11, of port 0
abbrev pub subcarrier : ℕ → ℕ → ℕ → ℕ
subcarrier identity symbol m = 6 * m + first_subcarrier identity symbol

-- reference signal value `m` of port 0 in a symbol, with its subcarrier
abbrev pub reference_pair : ℕ → ℕ → ℕ → ℕ → ℕ × Cpx
reference_pair identity slot symbol m =
    (subcarrier identity symbol m, reference identity slot symbol m)

-- the twelve pilots of port 0 in a symbol, as subcarriers and values
unfoldable pub reference_list : ℕ → ℕ → ℕ → List (ℕ × Cpx)
reference_list identity slot symbol =
    map (reference_pair identity slot symbol) (range_with_len 0 12)

-- whether the resource element at `symbol` and subcarrier `k` carries a reference signal of port 0: every sixth
-- subcarrier in symbols 0 and 4 does
unfoldable pub is_reference : ℕ → ℕ → ℕ → Bool
is_reference identity symbol k =
    has_pilots port_0 symbol && nat_eq (k % 6) (first_subcarrier identity symbol)

-- the reference signal value of port 0 on subcarrier `k`
unfoldable pub reference_at : ℕ → ℕ → ℕ → ℕ → Cpx
reference_at identity slot symbol k = reference identity slot symbol (k / 6)

-- ---- for port 1 with the normal prefix

-- whether the resource element at `symbol` and subcarrier `k` carries a reference signal of port 1: v is 3 in symbol 0
-- and 0 in symbol 4. Port 1 uses port 0's sequence, so the values for the same k / 6 are equal.
unfoldable pub is_second_reference : ℕ → ℕ → ℕ → Bool
is_second_reference identity symbol k = is_pattern_place port_1 identity symbol k

-- ---- for ports 2 and 3 with the normal prefix, in symbol 1 of a slot; sequence and values are port 0's

-- the constant term of v = upper_shift + 3 (n_s mod 2): 0 for port 2 and 3 for port 3 (section 6.10.1.2)
abbrev pub upper_shift : ℕ → ℕ
upper_shift port = 3 * (port % 2)

-- the first subcarrier with a reference signal of port 2 or 3; the two ports swap positions from slot to slot
abbrev pub upper_first : ℕ → ℕ → ℕ → ℕ
upper_first port identity slot = (upper_shift port + 3 * (slot % 2) + identity) % 6

-- whether the resource element at `symbol` and subcarrier `k` carries a reference signal of `port`, 2 or 3
unfoldable pub is_upper_reference : ℕ → ℕ → ℕ → ℕ → ℕ → Bool
is_upper_reference port identity slot symbol k = nat_eq symbol 1 && nat_eq (k % 6) (upper_first port identity slot)
