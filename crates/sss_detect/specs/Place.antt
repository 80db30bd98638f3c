-- The frame start for a hit, and the place of its cell.
use Rattle.std.specs.Prelude.{ℕ, ◌+◌, ◌-◌, ◌%◌, List}
use Rattle.cs_num.specs.declared.Sample.{Sample}
use Rattle.lte_types.specs.CellPlace.{Place}
use Rattle.lte_types.specs.Identity.{cell_of}
use Rattle.lte_types.specs.declared.frame.Half.{Half}
use Rattle.lte_types.specs.declared.hit.Hit.{Hit}
use Rattle.lte_types.specs.declared.numerology.Prefix.{Prefix}
use Rattle.lte_types.specs.Numerology.{frame_length, primary_start}
use Rattle.sss_detect.specs.Identity.{prefix_identity}

-- the frame start in samples, modulo a frame, if the useful part of the primary signal in `half` begins at sample `t`
-- (TS 36.211 sections 4.1, 6.11 and 6.12)
abbrev pub start_by_hit : ℕ → Half → ℕ
start_by_hit t half = (t + (frame_length - primary_start half)) % frame_length

-- the place of a hit's cell for a cyclic prefix: the cell identity, and the sample at which its first frame starts
abbrev pub prefix_place : Prefix → List Sample → Hit → Place
prefix_place prefix recording hit = record {
  id = cell_of (prefix_identity prefix recording hit).0 hit.n2;
  start = start_by_hit hit.t (prefix_identity prefix recording hit).1;
}
