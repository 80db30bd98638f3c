-- Cells whose sent words are the nearest ones to the soft values, although some values may have wrong signs. Each part
-- can be checked on a recording by additions, without a search among words. (own; the channels are in TS 36.211 sections
-- 6.3 to 6.11)
use Rattle.std.specs.Prelude.{ℕ, ◌+◌, ◌%◌, ◌≤◌, List, length, Result, Ok, Err}
use Rattle.cs_num.specs.declared.Sample.{Sample}
use Rattle.lte_types.specs.declared.entry.Entry.{Entry}
use Rattle.lte_types.specs.declared.frame.Half.{Half}
use Rattle.lte_types.specs.declared.sib1_reason.Sib1Reason.{Sib1Reason}
use Rattle.lte_types.specs.CellPlace.{Place}
use Rattle.lte_types.specs.Numerology.{least_samples}
use Rattle.sss_detect.specs.Place.{start_by_hit}
use Rattle.conv_code.specs.Reading.{summed}
use Rattle.turbo_code.specs.Reading.{summed as block_sums}
use Rattle.pcfich.specs.Indicator.{IsIndicator}
use Rattle.sib1_reader.specs.Subframe.{Subframe}
use Rattle.explain.specs.Receiver.{Receiver, Subframes}
use Rattle.explain.specs.System.{even_frame}
use Rattle.explain.specs.Entries.{IsListFor}
use Rattle.cell_plan.specs.declared.cell.CellPlan.{CellPlan}
use Rattle.cell_plan.specs.Transport.{checked_size, row_with, shared_word}
use Rattle.cell_grid.specs.Control.{version_of, grant_of}
use Rattle.code_distance.specs.Distance.{Outweigh}
use Rattle.turbo_margin.specs.Margin.{HasMargin}
use Rattle.clean_air.specs.Grant.{grant_word}
use Rattle.clean_air.specs.Heard.{SentMaster, word_of_master, master_of_plan, IsTakenBy}
use Rattle.clean_air.specs.Near.{IsFoundAt, IsFoundNear, place_found, first_sums, IsMasterDecoded, HoldsCell}

-- The cell's MIB is nearest: the detection at sample t gives the cell, whose first whole frame has number `number`, and
-- at each detection that gives the cell near this one, the added PBCH soft values outweigh every word other than the
-- MIB's.
pub record IsMasterNearest (receiver : Receiver) (recording : List Sample) (id : ℕ) (master : SentMaster)
    (number t : ℕ) (half : Half) : Type 0 where
  pub fits : number ≤ 1023
  pub found : IsFoundAt receiver recording id t half
  pub each :
      (u : ℕ) (other : Half) (m : ℕ) → IsFoundNear receiver recording id (start_by_hit t half) number u other m →
      Outweigh (first_sums receiver recording (place_found id u other) m) (word_of_master master m)

-- Subframe 5 of the frame numbered `number` is nearest. `indicator`: the sent control format indicator has the minimum
-- cost of the three. `control`: the soft values of the first four control channel elements, added by coded bit, outweigh
-- every word other than the grant's. `block`: the transport block's added soft values have a margin.
pub record IsSubframeNearest (values : Subframe) (plan : CellPlan) (number : ℕ) : Type 0 where
  pub indicator : IsIndicator values.indicator plan.cfi
  pub control : Outweigh (summed 37 (values.candidate plan.cfi)) (grant_word (grant_of plan number))
  pub block :
      let row = row_with (checked_size plan) in
      HasMargin row (shared_word plan)
      (block_sums row.k (version_of number) (values.shared plan.cfi plan.start plan.blocks))

-- For a receiver that reads subframe 5, this subframe is nearest in the first even-numbered whole frame. Nothing is
-- required for a receiver that does not read subframe 5.
abbrev pub IsSystemNearest : Result Subframes Sib1Reason → List Sample → CellPlan → Place → ℕ → Type 0
IsSystemNearest (Ok values) recording plan place number =
    let j = even_frame number 0 in
    IsSubframeNearest (values recording place j plan.duration plan.resource) plan ((number + j) % 1024)
IsSystemNearest (Err reason) recording plan place number = Unit {0}

-- The cell that sends `plan` is nearest: its MIB is and, if the receiver reads subframe 5, its system information is, at
-- each detection that gives the cell near the one at sample t.
pub record IsCellNearest (receiver : Receiver) (recording : List Sample) (plan : CellPlan) (number t : ℕ) (half : Half)
    : Type 0 where
  pub master :
      IsMasterNearest receiver recording plan.identity (master_of_plan receiver.carrier plan) number t half
  pub system :
      (u : ℕ) (other : Half) (m : ℕ) →
      IsFoundNear receiver recording plan.identity (start_by_hit t half) number u other m →
      IsSystemNearest receiver.subframe recording plan (place_found plan.identity u other) m

-- a law: the receiver decodes each MIB that is nearest
abbrev pub NearestMasterIsDecoded : Type 0
NearestMasterIsDecoded =
    (receiver : Receiver) (recording : List Sample) (id : ℕ) (master : SentMaster) (number t : ℕ) (half : Half) →
    IsTakenBy receiver master → IsMasterNearest receiver recording id master number t half →
    IsMasterDecoded receiver recording id master number t half

-- a law: the list of a receiver has each cell whose MIB, of any bandwidth, the receiver decodes at each detection
abbrev pub DecodedMasterIsListed : Type 0
DecodedMasterIsListed =
    (receiver : Receiver) (recording : List Sample) (list : List Entry) (id : ℕ) (master : SentMaster)
    (number t : ℕ) (half : Half) → 1 ≤ receiver.most_frames → least_samples ≤ length recording →
    IsTakenBy receiver master → IsMasterDecoded receiver recording id master number t half →
    IsListFor receiver recording list →
    HoldsCell list id (start_by_hit t half) number master (λ entry. Unit {0})
