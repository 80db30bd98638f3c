-- The law that the SSS identifies group and half-frame. (TS 36.211 section 6.11)
use Rattle.std.specs.Prelude.{◌≡◌, ℕ, ◌≤◌}
use Rattle.lte_types.specs.declared.frame.Half.{Half}
use Rattle.sync_seq.specs.Secondary.{sss_list}

-- for each identity within the group, the SSS of the 168 groups and two half-frames are all different
abbrev pub SecondaryDetermines : Type 0
SecondaryDetermines = (n2 n1 m1 : ℕ) (half other : Half) → n2 ≤ 2 → n1 ≤ 167 → m1 ≤ 167 →
    sss_list n1 n2 half ≡ sss_list m1 n2 other → (n1 ≡ m1) × (half ≡ other)
