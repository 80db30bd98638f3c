-- The PCFICH soft values in a subframe's first slot (TS 36.211 section 6.7).
use Rattle.std.specs.Prelude.{List, ℤ}
use Rattle.grid_map.specs.Control.{pcfich_places}
use Rattle.grid_map.specs.Scrambling.{pcfich_c_init}
use Rattle.soft_bits.specs.Soft.{SeenSlot}
use Rattle.soft_bits.specs.Places.{Valuing, placed_values, descrambled}

-- the 32 descrambled PCFICH soft values in a subframe's first slot. `values` is the method that computes soft values of
-- resource elements.
unfoldable pub indicator_values_by : Valuing → SeenSlot → List ℤ
indicator_values_by values slot =
    descrambled (pcfich_c_init slot.identity slot.number) 0 (values (λ p. slot) (pcfich_places slot.identity))

-- the 32 descrambled PCFICH soft values in a subframe's first slot, with one antenna port
abbrev pub indicator_values : SeenSlot → List ℤ
indicator_values = indicator_values_by placed_values
