-- Hits with their details: identity, frame start, ranking and metric. (own)
use Rattle.std.specs.Prelude.{ℕ, List}
use Rattle.cs_num.specs.declared.Sample.{Sample}
use Rattle.lte_types.specs.declared.frame.Half.{Half}
use Rattle.lte_types.specs.declared.hit.Hit.{Hit}
use Rattle.lte_types.specs.Identity.{cell_of}
use Rattle.lte_types.specs.Numerology.{normal}
use Rattle.pss_search.specs.Correlation.{wave_power}
use Rattle.sss_detect.specs.Identity.{identity_of}
use Rattle.sss_detect.specs.Place.{start_by_hit}
use Rattle.sss_detect.specs.Second.{prefix_ranking}
use Rattle.hit_details.specs.declared.hits.IdentifiedHit.{IdentifiedHit}
use Rattle.hit_details.specs.declared.hits.MeasuredHit.{MeasuredHit}
use Rattle.hit_details.specs.declared.hits.MeasuredId.{MeasuredId}

-- `hit` with its cell identity, half-frame and frame start, given `pair`, its SSS group and half-frame
abbrev pub identified_by : Hit → ℕ × Half → IdentifiedHit
identified_by hit pair = record {
  hit = hit;
  id = cell_of pair.0 hit.n2;
  half = pair.1;
  start = start_by_hit hit.t pair.1;
}

-- a hit with the cell identity, half-frame and frame start that the SSS in `samples` gives
abbrev pub identified : List Sample → Hit → IdentifiedHit
identified samples hit = identified_by hit (identity_of samples hit)

-- a hit with the three numbers in its metric: `peak`, `energy` and `power`
abbrev pub measured : Hit → MeasuredHit
measured hit = record { hit = hit; peak = hit.peak; energy = hit.energy; power = wave_power hit.n2 }

-- a hit with its cell identity, its SSS ranking and the three numbers in its metric
abbrev pub measured_id : List Sample → Hit → MeasuredId
measured_id samples hit = record {
  found = identified samples hit;
  ranking = prefix_ranking normal samples hit;
  peak = hit.peak;
  energy = hit.energy;
  power = wave_power hit.n2;
}
