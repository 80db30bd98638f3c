-- A cell of any bandwidth, and the recording rates at which it can be received (TS 36.211 section 6.2.1).
use Rattle.std.specs.Prelude.{◌≡◌, ◌⊎◌, ℕ, ◌*◌, ◌^◌, ◌≤◌, Bool, nat_lt}
use Rattle.lte_types.specs.declared.bandwidth.Bandwidth.{Bandwidth}
use Rattle.lte_types.specs.declared.bandwidth.Bandwidth.TheVariants.{N6, N15, N25, N50, N75, N100}
use Rattle.lte_types.specs.declared.duration.Duration.{Duration}
use Rattle.lte_types.specs.declared.resource.Resource.{Resource}

-- a cell: its identity, the number of antenna ports, the number of resource blocks, and PHICH duration and resource
pub record Cell : Type 0 where
  pub identity : ℕ
  pub ports : ℕ
  pub blocks : ℕ
  pub duration : Duration
  pub resource : Resource

-- the number of resource blocks in a bandwidth
abbrev pub blocks_of : Bandwidth → ℕ
blocks_of N6 = 6
blocks_of N15 = 15
blocks_of N25 = 25
blocks_of N50 = 50
blocks_of N75 = 75
blocks_of N100 = 100

-- one, two or four antenna ports
abbrev pub IsPortCount : ℕ → Type 0
IsPortCount ports = (ports ≡ 1) ⊎ ((ports ≡ 2) ⊎ (ports ≡ 4))

-- the number of resource blocks in one of the six bandwidths
abbrev pub IsBlockCount : ℕ → Type 0
IsBlockCount blocks =
    (blocks ≡ 6) ⊎ ((blocks ≡ 15) ⊎ ((blocks ≡ 25) ⊎ ((blocks ≡ 50) ⊎ ((blocks ≡ 75) ⊎ (blocks ≡ 100)))))

-- a valid cell
pub record IsCell (cell : Cell) : Type 0 where
  pub identity : cell.identity ≤ 503
  pub ports : IsPortCount cell.ports
  pub blocks : IsBlockCount cell.blocks

-- the number of subcarriers in a number of resource blocks
abbrev pub subcarriers : ℕ → ℕ
subcarriers blocks = 12 * blocks

-- the length of a symbol's useful part at a rate: 2^rate times 1.92 million samples per second (own: rates 0 to 4)
abbrev pub points : ℕ → ℕ
points rate = 128 * 2 ^ rate

-- whether a recording at a rate contains all subcarriers of a cell with `blocks` resource blocks
abbrev pub fits_rate : ℕ → ℕ → Bool
fits_rate blocks rate = nat_lt (subcarriers blocks) (points rate)
