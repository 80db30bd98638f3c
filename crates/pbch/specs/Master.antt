-- MIB decoding (TS 36.212 section 5.3.1, TS 36.331 section 6.2.2).
use Rattle.std.specs.Prelude.{ℕ, ◌+◌, ◌*◌, ◌<◌, ◌≤◌, ◌≡◌, ◌⊎◌, nat_eq, if◌then◌else◌, Bool, List, [], slice_index_or, ℤ, nat_abs, Option, None, MatchOption, length}
use Rattle.finite.specs.Sums.{total_below}
use Rattle.finite.specs.Tables.{sum_at}
use Rattle.cs_bits.specs.Numbers.{field}
use Rattle.cs_bits.specs.Checks.{HasCheck16}
use Rattle.conv_code.specs.Cost.{word_cost}
use Rattle.tailbite.specs.LeastWord.{IsLeastWord}
use Rattle.soft_bits.specs.Soft.{SeenSlot}
use Rattle.lte_types.specs.declared.mib.Mib.{Mib}
use Rattle.lte_types.specs.Block.{HasFields}
use Rattle.lte_types.specs.Codes.{bandwidth, duration, resource}
use Rattle.pbch.specs.declared.master.Master.{Master}
use Rattle.pbch.specs.Values.{summed_values, coded_values}

-- the sum of the magnitudes of the 120 combined soft values
unfoldable pub total : List (List ℤ) → ℕ
total values = total_below 40 (λ k. total_below 3 (λ t. nat_abs (sum_at values k t)))

-- the CRC mask for an antenna port count (TS 36.212 section 5.3.1.1)
abbrev pub mask : ℕ → ℕ
mask ports = if nat_eq ports 1 then 0 else (if nat_eq ports 2 then 0xffff else 0x5555)

-- the CRC in the 40-bit word passes with the mask for `ports` antenna ports, which are 1, 2 or 4
pub record PassesWith (ports : ℕ) (word : List Bool) : Type 0 where
  pub count : (ports ≡ 1) ⊎ (ports ≡ 2) ⊎ (ports ≡ 4)
  pub check : HasCheck16 (mask ports) word

-- the 40-bit word carries the MIB `mib`: bandwidth, PHICH duration, PHICH resource, upper bits of the frame number, and
-- spare bits
abbrev pub Carries : List Bool → Mib → Type 0
Carries word mib =
    HasFields mib (bandwidth (field word 0 3)) (duration (field word 3 1)) (resource (field word 4 2))
    (field word 6 8) (field word 14 10)

-- the combined soft values decode to `word`, in a cell with `ports` antenna ports. Not all values are 0, the word has
-- the minimum cost, at most a quarter of the sum of magnitudes, its CRC passes, and its bandwidth code is valid.
pub record Decodes (values : List (List ℤ)) (word : List Bool) (ports : ℕ) : Type 0 where
  pub least : IsLeastWord values word
  pub heard : 0 < total values
  pub clear : 4 * word_cost values word ≤ total values
  pub check : PassesWith ports word
  pub width : field word 0 3 ≤ 5

-- the combined soft values decode to the MIB `master`, with its antenna port count and cost
pub record DecodesMaster (values : List (List ℤ)) (master : Master) : Type 0 where
  pub word : List Bool
  pub decodes : Decodes values word master.ports
  pub mib : Carries word master.mib
  pub cost : master.cost ≡ word_cost values word

-- the combined soft values decode to no word, with any antenna port count
abbrev pub DecodesNothing : List (List ℤ) → Type 0
DecodesNothing values = (word : List Bool) (ports : ℕ) → Decodes values word ports → ⊥

-- the PBCH in `slots`, one slot per frame, decodes to the MIB `master` if the first frame is at `phase` in the period
-- of four
abbrev pub IsMaster : List SeenSlot → ℕ → Master → Type 0
IsMaster slots phase master = DecodesMaster (coded_values slots phase) master

-- the PBCH in `slots`, one slot per frame, decodes to no MIB if the first frame is at `phase` in the period of four
abbrev pub HasNoMaster : List SeenSlot → ℕ → Type 0
HasNoMaster slots phase = DecodesNothing (coded_values slots phase)

-- ---- the MIB at all phases

-- the MIB at a phase in a list by phase, if there is one
abbrev pub master_at : List (Option Master) → ℕ → Option Master
master_at masters phase = slice_index_or masters phase None

-- the combined soft values at a phase in a list by phase
abbrev pub sums_at : List (List (List ℤ)) → ℕ → List (List ℤ)
sums_at sums phase = slice_index_or sums phase []

-- if the first frame is at `phase`, the MIB that `masters` lists is decoded from `received`, the soft values of `count`
-- consecutive frames with `size` bits each; none is listed if the frames exceed the period of four
pub record IsDecoded (identity size count : ℕ) (received : List ℤ) (masters : List (Option Master)) (phase : ℕ) :
    Type 0 where
  pub decoded : phase + count ≤ 4 →
      let values = summed_values identity (size * phase) received in
      MatchOption (master_at masters phase) (DecodesNothing values) (DecodesMaster values)
  pub beyond : 4 < phase + count → master_at masters phase ≡ None

-- `masters` lists for each phase of the first frame the MIB decoded from `received`, the soft values of `count`
-- consecutive frames with `size` bits each
pub record AreMasters (identity size count : ℕ) (received : List ℤ) (masters : List (Option Master)) : Type 0 where
  pub phases : length masters ≡ 4
  pub first : IsDecoded identity size count received masters 0
  pub second : IsDecoded identity size count received masters 1
  pub third : IsDecoded identity size count received masters 2
  pub fourth : IsDecoded identity size count received masters 3
