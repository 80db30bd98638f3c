-- An antenna port's pilots in a slot, by subcarrier (a line), and the channel that they give, for each transmission
-- scheme and port (TS 36.211 section 6.10.1.2). (own)
use Rattle.std.specs.Prelude.{ℕ, zero, suc, ◌+◌, ◌*◌, ◌/◌, ◌%◌, List}
use Rattle.finite.specs.Sums.{total_below}
use Rattle.finite.specs.Lists.{values_below}
use Rattle.cs_num.specs.declared.Cpx.{Cpx}
use Rattle.cs_num.specs.Complex.{times, conjugate, multiple, square}
use Rattle.lte_types.specs.declared.carrier.Carrier.{Carrier}
use Rattle.lte_types.specs.Carrier.{ports_of}
use Rattle.crs.specs.declared.pattern.Pattern.{Pattern}
use Rattle.crs.specs.Reference.{pattern_of, upper_first, reference}
use Rattle.soft_bits.specs.Estimate.{place_by, line_by}
use Rattle.soft_bits.specs.Soft.{SeenSlot, seen_at, pattern_symbol, pattern_sent}

-- an antenna port's pilots in a slot: their distance in subcarriers, the number of the last pilot, the subcarrier of
-- pilot 0, and for each pilot its symbol in the slot and the value sent
pub record Line : Type 0 where
  pub step : ℕ
  pub last : ℕ
  pub first : ℕ
  pub symbol : ℕ → ℕ
  pub sent : ℕ → Cpx

-- ports 0 and 1 have 24 pilots, at every third subcarrier of two symbols together
abbrev pub lower_line : Pattern → SeenSlot → Line
lower_line pattern slot = record {
  step = 3;
  last = 23;
  first = slot.identity % 3;
  symbol = pattern_symbol pattern slot.identity;
  sent = pattern_sent pattern slot.identity slot.number;
}

-- ports 2 and 3 have 12 pilots, at every sixth subcarrier of the slot's second symbol
abbrev pub upper_line : ℕ → SeenSlot → Line
upper_line port slot = record {
  step = 6;
  last = 11;
  first = upper_first port slot.identity slot.number;
  symbol = λ m. 1;
  sent = reference slot.identity slot.number 1;
}

-- the pilots of a port, by transmission scheme and port number
abbrev pub line_of : Carrier → ℕ → SeenSlot → Line
line_of carrier zero = lower_line (pattern_of carrier 0)
line_of carrier (suc zero) = lower_line (pattern_of carrier 1)
line_of carrier (suc (suc n)) = upper_line (suc (suc n))

-- ---- any line

-- the subcarrier of pilot i
abbrev pub line_place : Line → ℕ → ℕ
line_place line i = place_by line.step line.first i

-- the value received at pilot i
abbrev pub line_seen : Line → SeenSlot → ℕ → Cpx
line_seen line slot i = seen_at slot (line.symbol i) (line_place line i)

-- pilot i: the channel at its resource element, times the squared magnitude of the value sent
abbrev pub line_pilot : Line → SeenSlot → ℕ → Cpx
line_pilot line slot i = times (line_seen line slot i) (conjugate (line.sent i))

-- all pilots of a line, by subcarrier
abbrev pub line_pilots : Line → SeenSlot → List Cpx
line_pilots line slot = values_below (line.last + 1) (line_pilot line slot)

-- the channel at subcarrier k, interpolated between pilots and multiplied by their distance in subcarriers
unfoldable pub line_channel : Line → SeenSlot → ℕ → Cpx
line_channel line slot k = line_by line.step line.last (line_pilot line slot) line.first k

-- the energy of a line's pilots: the sum of squared magnitudes of the values received
unfoldable pub line_energy : Line → SeenSlot → ℕ
line_energy line slot = total_below (line.last + 1) (λ i. square (line_seen line slot i))

-- ---- the ports of a carrier

-- a port's channel at subcarrier k, interpolated between pilots and multiplied by `scale`, a multiple of their distance
abbrev pub port_channel : ℕ → Carrier → ℕ → SeenSlot → ℕ → Cpx
port_channel scale carrier port slot k =
    multiple (scale / (line_of carrier port slot).step) (line_channel (line_of carrier port slot) slot k)

-- the energy of a port's pilots, scaled to 24 pilots: that of ports 2 and 3, which have 12 pilots, is doubled
abbrev pub port_energy : Carrier → SeenSlot → ℕ → ℕ
port_energy carrier slot port =
    (line_of carrier port slot).step / 3 * line_energy (line_of carrier port slot) slot

-- the sum of the pilot energies of all ports
unfoldable pub ports_energy : Carrier → SeenSlot → ℕ
ports_energy carrier slot = total_below (ports_of carrier) (port_energy carrier slot)
