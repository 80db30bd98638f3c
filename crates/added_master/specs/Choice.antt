-- The choice among the MIBs that the frames of a position decode to with different port counts, phases and frame
-- numbers. (own)
use Rattle.std.specs.Prelude.{◌≡◌, ◌⊎◌, ℕ, ◌+◌, ◌*◌, ◌<◌, nat_eq, nat_lt, if◌then◌else◌}
use Rattle.std.specs.Prelude.{List, ℤ, Option, Some, None, MatchOption}
use Rattle.added_master.specs.declared.master.AddedMaster.{AddedMaster}
use Rattle.added_master.specs.Sums.{period_sums, added_sums}
use Rattle.added_master.specs.Master.{DecodesAdded}

-- ---- the order of MIBs

-- a number that orders MIBs by port count, then phase, then upper frame number bits
abbrev pub rank : AddedMaster → ℕ
rank m = 1024 * m.ports + (256 * m.phase + m.mib.upper)

-- `a` is preferred to `b`: it has more matches, or as many and the lower rank
abbrev pub IsPreferred : AddedMaster → AddedMaster → Type 0
IsPreferred a b = (b.matches < a.matches) ⊎ ((a.matches ≡ b.matches) × (rank a < rank b))

-- `chosen` is the MIB with the property P to which no other is preferred; there is none if no MIB has it
abbrev pub IsChoice : (AddedMaster → Type 0) → Option AddedMaster → Type 0
IsChoice P chosen = MatchOption chosen ((m : AddedMaster) → P m → ⊥)
    (λ best. P best × ((other : AddedMaster) → P other → IsPreferred other best → ⊥))

-- ---- the MIB of a position

-- the soft values in each frame for a port count, 1, 2 or 4
abbrev pub frames_for : List (List ℤ) → List (List ℤ) → List (List ℤ) → ℕ → List (List ℤ)
frames_for one two four ports = if nat_eq ports 1 then one else (if nat_eq ports 2 then two else four)

-- the frames decode to the MIB `m`, with its own port count, phase of frame 0 and upper frame number bits of frame 0's
-- period. `frames` has the soft values in each frame by port count.
pub record IsDecoded (identity : ℕ) (frames : ℕ → List (List ℤ)) (m : AddedMaster) : Type 0 where
  pub phase : m.phase < 4
  pub decodes : DecodesAdded (added_sums (period_sums identity m.phase (frames m.ports)) m.mib.upper) m

-- `frames`, with the soft values for `ports` antenna ports, decode to the MIB `m` with its own phase and number
abbrev pub IsDecodedWith : ℕ → ℕ → List (List ℤ) → AddedMaster → Type 0
IsDecodedWith identity ports frames m =
    (m.ports ≡ ports) × (m.phase < 4) × DecodesAdded (added_sums (period_sums identity m.phase frames) m.mib.upper) m

-- `chosen` is the MIB of a position, if there is one: of the MIBs to which its frames decode, the one with the most
-- matches; if several have as many, the one with the lowest port count, then phase, then upper frame number bits
abbrev pub IsMasterOf : ℕ → (ℕ → List (List ℤ)) → Option AddedMaster → Type 0
IsMasterOf identity frames = IsChoice (IsDecoded identity frames)

-- ---- as the code computes it

-- the MIB with more matches, or the first if both have as many
unfoldable pub better : Option AddedMaster → Option AddedMaster → Option AddedMaster
better first None = first
better None (Some b) = Some b
better (Some a) (Some b) = if nat_lt a.matches b.matches then Some b else Some a
