-- Laws of the list of hits. (own)
use Rattle.std.specs.Prelude.{◌≡◌, ℕ, ◌+◌, ◌*◌, ◌<◌, ◌≤◌, ◌↔◌, List, true, length}
use Rattle.std.specs.List.{Contains, AllPairs}
use Rattle.cs_num.specs.declared.Sample.{Sample}
use Rattle.lte_types.specs.declared.Hit.{Hit}
use Rattle.pss_search.specs.Tests.{is_hit}
use Rattle.pss_search.specs.Hits.{IsHit, first_place, last_place, found, hits_of}

-- for each position in the search range, the Boolean test `is_hit` agrees with the definition `IsHit`
abbrev pub TestIsRight : Type 0
TestIsRight = (recording : List Sample) (t n2 : ℕ) → first_place ≤ t → t ≤ last_place →
    (is_hit recording t n2 ≡ true → IsHit recording t n2) × (IsHit recording t n2 → is_hit recording t n2 ≡ true)

-- `hit` belongs to one of the three primary signals, is a hit of the recording, and has the peak and energy at its
-- position
pub record IsHitOf (recording : List Sample) (hit : Hit) : Type 0 where
  pub root : hit.n2 < 3
  pub is_hit : IsHit recording hit.t hit.n2
  pub measured : hit ≡ found recording hit.t hit.n2

-- a recording's list of hits contains exactly the recording's hits, with their peaks and energies
abbrev pub ListIsRight : Type 0
ListIsRight = (recording : List Sample) (hit : Hit) → Contains (hits_of recording) hit ↔ IsHitOf recording hit

-- the hit `first` is listed before the hit `second`: by position, then by identity within the group
abbrev pub IsEarlier : Hit → Hit → Type 0
IsEarlier first second = 3 * first.t + first.n2 < 3 * second.t + second.n2

-- the list of hits is in strictly ascending order, so no hit is listed twice
abbrev pub ListIsInOrder : Type 0
ListIsInOrder = (recording : List Sample) → AllPairs IsEarlier (hits_of recording)

-- a recording has at most 5,760 hits, since two hits of one primary signal are at least ten positions apart
abbrev pub ListIsShort : Type 0
ListIsShort = (recording : List Sample) → length (hits_of recording) ≤ 5760
