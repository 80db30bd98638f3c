-- The soft values of the PCFICH determine the control format indicator that was sent (TS 36.211 section 6.7). (own)
use Rattle.std.specs.Prelude.{◌≡◌, ℕ, ◌≤◌, Bool, List, ℤ}
use Rattle.cs_num.specs.declared.Cpx.{Cpx}
use Rattle.grid_map.specs.Control.{pcfich_places}
use Rattle.grid_map.specs.Scrambling.{pcfich_c_init, indicator_bit}
use Rattle.soft_bits.specs.Soft.{SeenSlot}
use Rattle.pcfich.specs.Indicator.{IsIndicator, Speak}
use Rattle.pcfich.specs.Values.{indicator_values}
use Rattle.cell_grid.specs.Points.{scrambled}
use Rattle.clean_air.specs.Values.{IsSlotHeard}
use Rattle.clean_air.specs.Carried.{ArePlacesHeard, CarryBits}

-- `values` determine `indicator` and no other number
pub record IsOnlyIndicator (values : List ℤ) (indicator : ℕ) : Type 0 where
  pub is : IsIndicator values indicator
  pub only : (other : ℕ) → IsIndicator values other → other ≡ indicator

-- a law: 32 soft values determine an indicator, 1 to 3, if each value has the sign of the indicator's bit
abbrev pub SentIndicatorIsDecoded : Type 0
SentIndicatorIsDecoded = (values : List ℤ) (indicator : ℕ) → 1 ≤ indicator → indicator ≤ 3 → Speak values indicator →
    IsOnlyIndicator values indicator

-- A slot determines an indicator: each of its 32 soft values on the PCFICH has the sign of the indicator's bit, and
-- decoding returns this indicator only.
pub record DecodesIndicator (slot : SeenSlot) (indicator : ℕ) : Type 0 where
  pub speak : Speak (indicator_values slot) indicator
  pub decoded : IsOnlyIndicator (indicator_values slot) indicator

-- the scrambled bits of an indicator in the subframe that begins with `slot`
abbrev pub indicator_scrambled : SeenSlot → ℕ → ℕ → Bool
indicator_scrambled slot indicator = scrambled (pcfich_c_init slot.identity slot.number) (indicator_bit indicator)

-- a law: a slot determines an indicator, 1 to 3, if the soft values of the PCFICH's 16 resource elements have the signs
-- of the indicator's scrambled bits
abbrev pub HeardIndicatorIsDecoded : Type 0
HeardIndicatorIsDecoded = (slot : SeenSlot) (indicator : ℕ) → 1 ≤ indicator → indicator ≤ 3 →
    ArePlacesHeard slot (pcfich_places slot.identity) (indicator_scrambled slot indicator) →
    DecodesIndicator slot indicator

-- a law: a slot with correct soft values determines the indicator, 1 to 3, that its PCFICH carries
abbrev pub CarriedIndicatorIsDecoded : Type 0
CarriedIndicatorIsDecoded =
    (grids : ℕ → ℕ → Cpx) (slot : SeenSlot) (indicator : ℕ) → 1 ≤ indicator → indicator ≤ 3 →
    IsSlotHeard grids slot →
    CarryBits grids (pcfich_places slot.identity) (indicator_scrambled slot indicator) → DecodesIndicator slot indicator
