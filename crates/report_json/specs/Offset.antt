-- The frequency offset estimate as JSON. An object's keys are in byte order. (own)
use Rattle.std.specs.Prelude.{◌≡◌, ℕ, List, Option, codes}
use Rattle.serde_json.specs.Data.{Data, object, member, no_members}
use Rattle.serde_json.specs.Written.{compact_text}
use Rattle.cs_num.specs.declared.Sample.{Sample}
use Rattle.frequency_offset.specs.declared.candidate.Candidate.{Candidate}
use Rattle.frequency_offset.specs.declared.estimation.OffsetEstimate.{OffsetEstimate}
use Rattle.frequency_offset.specs.Candidates.{taken_of}
use Rattle.frequency_offset.specs.Estimation.{IsEstimated}
use Rattle.report_parts.specs.Fields.{natural, integer, list_of}
use Rattle.report_json.specs.Values.{or_null}

-- the object for an estimate: the number of cells, the number of hits, and the offset in steps of 117.1875 Hz as `turn`
abbrev pub estimate_value : OffsetEstimate → Data
estimate_value estimate = object (
    member (codes "cells") (natural estimate.cells) (
    member (codes "hits") (natural estimate.hits) (
    member (codes "turn") (integer estimate.turn) no_members)))

-- the object for a candidate: its coarse offset in steps of 3.75 kHz, its offset in steps of 117.1875 Hz as `turn`, and
-- the numbers of its best hit's fraction
abbrev pub candidate_value : Candidate → Data
candidate_value candidate = object (
    member (codes "coarse") (integer candidate.coarse) (
    member (codes "energy") (natural candidate.fraction.energy) (
    member (codes "peak") (natural candidate.fraction.peak) (
    member (codes "power") (natural candidate.fraction.power) (
    member (codes "turn") (integer candidate.turn) no_members)))))

-- the object with the estimate, or null if there is none, and the selected candidates `taken`
abbrev pub estimation_value : Option OffsetEstimate → List Candidate → Data
estimation_value estimate taken = object (
    member (codes "candidates") (list_of candidate_value taken) (
    member (codes "told") (or_null estimate_value estimate) no_members))

-- the JSON of an estimate and the selected candidates, without spaces
unfoldable pub estimation_json : Option OffsetEstimate → List Candidate → List ℕ
estimation_json estimate taken = compact_text (estimation_value estimate taken)

-- `text` is the JSON of the estimate and the selected candidates of `recording`
pub record IsTellJson (recording : List Sample) (text : List ℕ) : Type 0 where
  pub estimate : Option OffsetEstimate
  pub is_estimated : IsEstimated recording estimate
  pub is_text : text ≡ estimation_json estimate (taken_of recording)
