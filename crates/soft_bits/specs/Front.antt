-- The front of a slot: its first five symbols. In slot 1 the first four carry the PBCH. Reference signals are in the
-- first and the fifth symbol (ports 0 and 1), or in the second (ports 2 and 3) (TS 36.211 sections 6.6.4 and 6.10.1.2).
use Rattle.std.specs.Prelude.{◌≡◌, ℕ, ◌%◌, ◌<◌, List, [], slice_index_or}
use Rattle.grid_map.specs.declared.Place.{Place}
use Rattle.grid_map.specs.Place.{place}
use Rattle.soft_bits.specs.Soft.{SeenSlot}
use Rattle.soft_bits.specs.Places.{Valuing}

-- two slots with the same number, cell identity and front
pub record HaveOneFront (a b : SeenSlot) : Type 0 where
  pub number : a.number ≡ b.number
  pub identity : a.identity ≡ b.identity
  pub symbols : (symbol : ℕ) → symbol < 5 → slice_index_or a.symbols symbol [] ≡ slice_index_or b.symbols symbol []

-- every element of `places` is in one of the first four symbols of a slot
abbrev pub AreInFront : List Place → Type 0
AreInFront places = (i : ℕ) → (slice_index_or places i (place 0 0)).symbol % 7 < 4

-- for resource elements in a slot's first four symbols, soft values depend only on the slot's first five symbols, its
-- number and the cell identity
abbrev pub LooksAtFront : Valuing → Type 0
LooksAtFront values =
    (a b : SeenSlot) (places : List Place) → HaveOneFront a b → AreInFront places →
    values (λ p. a) places ≡ values (λ p. b) places
