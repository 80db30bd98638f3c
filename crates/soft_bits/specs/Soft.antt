-- Channel estimation in a slot, and the soft values of its resource elements. (own)
use Rattle.std.specs.Prelude.{ℕ, ◌/◌, ◌%◌, ◌^◌, nat_eq, if◌then◌else◌, List, [], ◌∷◌, All, slice_index_or, ℤ, pos}
use Rattle.std.specs.Prelude.{◌*ℤ◌, int_div}
use Rattle.finite.specs.Sums.{total_below}
use Rattle.cs_num.specs.declared.Cpx.{Cpx}
use Rattle.cs_num.specs.Complex.{times, conjugate, square, value_at, IsWithin}
use Rattle.cs_num.specs.Rounding.{clamped}
use Rattle.crs.specs.declared.pattern.Pattern.{Pattern}
use Rattle.crs.specs.Reference.{port_0, is_pattern_place, pattern_reference}
use Rattle.soft_bits.specs.Estimate.{pilot_place, estimate}

-- a received slot: its symbols, each by subcarrier, its number in the frame and the cell identity
pub record SeenSlot : Type 0 where
  pub symbols : List (List Cpx)
  pub number : ℕ
  pub identity : ℕ

-- the value received at subcarrier k of a symbol
abbrev pub seen_at : SeenSlot → ℕ → ℕ → Cpx
seen_at slot symbol k = value_at (slice_index_or slot.symbols symbol []) k

-- real and imaginary parts of all received values have magnitude at most 2^25
abbrev pub AreSmall : List (List Cpx) → Type 0
AreSmall symbols = All (All (IsWithin (2 ^ 25))) symbols

-- the subcarrier of pilot i of 24; the pilots are the reference elements in two symbols of a slot (TS 36.211 section
-- 6.10.1.2)
abbrev pub pilot_subcarrier : ℕ → ℕ → ℕ
pilot_subcarrier identity i = pilot_place (identity % 3) i

-- ---- any pattern of reference signals

-- the symbol in the slot that carries pilot i
unfoldable pub pattern_symbol : Pattern → ℕ → ℕ → ℕ
pattern_symbol pattern identity i =
    if is_pattern_place pattern identity 0 (pilot_subcarrier identity i) then 0 else pattern.later

-- the value received at pilot i
unfoldable pub pattern_seen : Pattern → SeenSlot → ℕ → Cpx
pattern_seen pattern slot i = seen_at slot (pattern_symbol pattern slot.identity i) (pilot_subcarrier slot.identity i)

-- the value sent at pilot i
unfoldable pub pattern_sent : Pattern → ℕ → ℕ → ℕ → Cpx
pattern_sent pattern identity number i =
    pattern_reference pattern identity number (pattern_symbol pattern identity i) (pilot_subcarrier identity i / 6)

-- pilot i: the channel at its resource element, times the squared magnitude of the reference signal
unfoldable pub pattern_pilot : Pattern → SeenSlot → ℕ → Cpx
pattern_pilot pattern slot i =
    times (pattern_seen pattern slot i) (conjugate (pattern_sent pattern slot.identity slot.number i))

-- the pilot energy: the sum of squared magnitudes of the values received at the 24 pilots
unfoldable pub pattern_energy : Pattern → SeenSlot → ℕ
pattern_energy pattern slot = total_below 24 (λ i. square (pattern_seen pattern slot i))

-- the channel at subcarrier k, interpolated between pilots and multiplied by 3
unfoldable pub pattern_channel : Pattern → SeenSlot → ℕ → Cpx
pattern_channel pattern slot k = estimate (pattern_pilot pattern slot) (slot.identity % 3) k

-- ---- port 0 with the normal prefix

-- the symbol in the slot that carries pilot i of port 0
abbrev pub pilot_symbol : ℕ → ℕ → ℕ
pilot_symbol = pattern_symbol port_0

-- the value that port 0 sends at pilot i
abbrev pub pilot_sent : ℕ → ℕ → ℕ → Cpx
pilot_sent = pattern_sent port_0

-- pilot i of port 0: the channel at its resource element, times the squared magnitude of the reference signal
abbrev pub pilot : SeenSlot → ℕ → Cpx
pilot = pattern_pilot port_0

-- the pilot energy of port 0
abbrev pub pilot_energy : SeenSlot → ℕ
pilot_energy = pattern_energy port_0

-- the channel of port 0 at subcarrier k, interpolated between pilots and multiplied by 3
abbrev pub channel : SeenSlot → ℕ → Cpx
channel = pattern_channel port_0

-- ---- soft values

-- the soft value of an amplitude's real or imaginary part: six times the part divided by the pilot energy, rounded
-- toward zero and clamped to -127 to 127; 0 if the energy is 0
abbrev pub soft_value : ℤ → ℕ → ℤ
soft_value component energy =
    if nat_eq energy 0 then pos 0 else clamped (int_div (pos 6 *ℤ component) (pos energy)) 127

-- an amplitude's two soft values: for the bit in the real part, then for the bit in the imaginary part
abbrev pub soft_pair : Cpx → ℕ → List ℤ
soft_pair amplitude energy = soft_value amplitude.re energy ∷ soft_value amplitude.im energy ∷ []

-- the equalised value of a resource element: the received value times the conjugate of the channel
abbrev pub equalised : SeenSlot → ℕ → ℕ → Cpx
equalised slot symbol k = times (seen_at slot symbol k) (conjugate (channel slot k))

-- the two soft values of a resource element, with one antenna port
unfoldable pub soft_values : SeenSlot → ℕ → ℕ → List ℤ
soft_values slot symbol k = soft_pair (equalised slot symbol k) (pilot_energy slot)
