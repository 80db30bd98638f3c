-- Soft values of the physical broadcast channel (PBCH) in consecutive frames (TS 36.211 section 6.6).
use Rattle.std.specs.Prelude.{ℕ, ◌*◌, List, [], ◌∷◌, ℤ}
use Rattle.std.specs.List.{flat_map}
use Rattle.grid_map.specs.Broadcast.{pbch_places}
use Rattle.grid_map.specs.Scrambling.{pbch_c_init}
use Rattle.soft_bits.specs.Soft.{SeenSlot}
use Rattle.soft_bits.specs.Places.{Valuing, placed_values, descrambled}
use Rattle.conv_code.specs.Reading.{summed_from}

-- the 480 soft values at the PBCH resource elements in a slot, not descrambled. `values` is the method that computes
-- soft values of resource elements.
abbrev pub received_values_by : Valuing → SeenSlot → List ℤ
received_values_by values slot = values (λ p. slot) (pbch_places slot.identity)

-- the 480 soft values at the PBCH resource elements in a slot, not descrambled, with one antenna port
abbrev pub received_values : SeenSlot → List ℤ
received_values = received_values_by placed_values

-- the combined soft values for the 40-bit word, by index and stream, from the values received in consecutive frames
-- that start at bit `first` in a period of four. One sequence scrambles all bits in the period (section 6.6.1); they
-- are the codeword, repeated from its first bit (TS 36.212 section 5.3.1.3).
unfoldable pub summed_values : ℕ → ℕ → List ℤ → List (List ℤ)
summed_values identity first received = summed_from first 40 (descrambled (pbch_c_init identity) first received)

-- the cell identity of the first of `slots`
abbrev pub identity_of : List SeenSlot → ℕ
identity_of [] = 0
identity_of (slot ∷ slots) = slot.identity

-- the combined soft values for the 40-bit word, by index and stream, from one slot per frame, if the first frame is at
-- `phase` in the period of four. Each slot has the next 480 bits of the period.
unfoldable pub coded_values : List SeenSlot → ℕ → List (List ℤ)
coded_values slots phase = summed_values (identity_of slots) (480 * phase) (flat_map received_values slots)
