-- Reception of one cell, part by part: the synchronisation signals, the identity, the broadcast channel and, if the
-- receiver reads SIB1, the control format indicator, the grant and the transport block. Each part compares a value that
-- the receiver computes from the recording with the value that the cell sends. No part needs a gain, a channel or an
-- error bound, so each can be checked on a recording. (own; the channels are in TS 36.211 sections 6.3 to 6.11)
use Rattle.std.specs.Prelude.{◌≡◌, ◌⊎◌, ℕ, ◌+◌, ◌*◌, ◌/◌, ◌%◌, ◌<◌, ◌≤◌, true, Bool, List, ◌++◌, Result, Ok, Err}
use Rattle.cs_num.specs.declared.Sample.{Sample}
use Rattle.cs_bits.specs.Numbers.{bits_of}
use Rattle.cs_bits.specs.Checks.{with_check_16}
use Rattle.lte_types.specs.declared.bandwidth.Bandwidth.{Bandwidth}
use Rattle.lte_types.specs.declared.bandwidth.Bandwidth.TheVariants.{N6}
use Rattle.lte_types.specs.declared.carrier.Carrier.{Carrier}
use Rattle.lte_types.specs.declared.duration.Duration.{Duration}
use Rattle.lte_types.specs.declared.frame.Half.{Half}
use Rattle.lte_types.specs.declared.resource.Resource.{Resource}
use Rattle.lte_types.specs.declared.sib1_reason.Sib1Reason.{Sib1Reason}
use Rattle.lte_types.specs.Carrier.{prefix_of, ports_of}
use Rattle.lte_types.specs.CellPlace.{Place}
use Rattle.lte_types.specs.Codes.{bandwidth_code, duration_code, resource_code}
use Rattle.lte_types.specs.Numerology.{half_frame_length}
use Rattle.lte_types.specs.Timing.{IsOffset, start_of, number_at_start}
use Rattle.pss_search.specs.Hits.{last_place, found}
use Rattle.sss_detect.specs.Identity.{IsBest, prefix_scores}
use Rattle.grid_map.specs.Scrambling.{pbch_c_init}
use Rattle.pbch.specs.Master.{mask}
use Rattle.pcfich.specs.Indicator.{Speak}
use Rattle.sib1_reader.specs.Subframe.{Subframe}
use Rattle.explain.specs.Receiver.{Receiver, Subframes, is_wanted}
use Rattle.explain.specs.System.{even_frame}
use Rattle.cell_plan.specs.declared.cell.CellPlan.{CellPlan}
use Rattle.cell_plan.specs.Transport.{assigned_bits_of}
use Rattle.cell_grid.specs.Control.{grant_of}
use Rattle.cell_grid.specs.Shared.{shared_bit}
use Rattle.clean_air.specs.Words.{SpeakInOrder}
use Rattle.clean_air.specs.Carried.{SpeakOfWord, AreHeard}
use Rattle.clean_air.specs.Grant.{grant_word}
use Rattle.clean_air.specs.Through.{IsPrimaryPlace, SignalsStandOut}

-- ---- the master information block

-- A cell's MIB without its frame number: bandwidth, PHICH duration and resource, and the 10 spare bits as a number.
-- `ports` is the antenna port count, which masks the MIB's CRC.
pub record SentMaster : Type 0 where
  pub ports : ℕ
  pub width : Bandwidth
  pub duration : Duration
  pub resource : Resource
  pub spare : ℕ

-- the 24 bits of the MIB in the frame numbered `number`: dl-Bandwidth, phich-Config, the upper 8 bits of the frame
-- number, and the spare bits (TS 36.331 section 6.2.2)
unfoldable pub bits_of_master : SentMaster → ℕ → List Bool
bits_of_master master number =
    bits_of 3 (bandwidth_code master.width) ++ bits_of 1 (duration_code master.duration)
    ++ bits_of 2 (resource_code master.resource) ++ bits_of 8 (number / 4) ++ bits_of 10 master.spare

-- the codeword's 40 information bits: the MIB and its CRC-16, masked by the antenna port count (TS 36.212 section
-- 5.3.1.1)
unfoldable pub word_of_master : SentMaster → ℕ → List Bool
word_of_master master number = with_check_16 (mask master.ports) (bits_of_master master number)

-- the MIB that a transmission scheme sends for `plan`; its bandwidth is 6 resource blocks
abbrev pub master_of_plan : Carrier → CellPlan → SentMaster
master_of_plan carrier plan = record {
  ports = ports_of carrier;
  width = N6;
  duration = plan.duration;
  resource = plan.resource;
  spare = plan.spare;
}

-- The receiver accepts the MIB: the antenna port count is 1, 2 or 4, and equals the count that the receiver requires,
-- if any. The spare bits are a number up to 1023.
pub record IsTakenBy (receiver : Receiver) (master : SentMaster) : Type 0 where
  pub count : (master.ports ≡ 1) ⊎ (master.ports ≡ 2) ⊎ (master.ports ≡ 4)
  pub taken : is_wanted receiver.ports master.ports ≡ true
  pub spare : master.spare ≤ 1023

-- ---- reception up to the master information block

-- The receiver detects the identity: at the cell's primary signal in the later half-frame of the PSS search range, the
-- cell's identity group and half-frame have the maximum score of all 336 pairs, and each earlier pair has a smaller
-- score.
abbrev pub IdentityIsBest : Carrier → List Sample → ℕ → ℕ → Type 0
IdentityIsBest carrier recording identity offset =
    (t : ℕ) (half : Half) → IsPrimaryPlace offset t half → last_place < t + half_frame_length → t ≤ last_place →
    IsBest (prefix_scores (prefix_of carrier) recording (found recording t (identity % 3))) (identity / 3) half

-- the identity of a cell, and the sample at which its first whole frame begins
abbrev pub sent_place : ℕ → ℕ → Place
sent_place identity offset = record { id = identity; start = start_of offset }

-- The receiver hears the MIB of a cell in a recording whose first sample is sample `offset` of the frame numbered
-- `sfn`. `signals`: the primary signals stand out by the rule of PSS detections. `identity`: the secondary signals give
-- the cell's identity. `broadcast`: each soft value of the broadcast channel in the first whole frame has its scrambled
-- bit's sign. Nothing is required of the broadcast channel in other frames, or of any other channel.
pub record IsMasterHeard (receiver : Receiver) (recording : List Sample) (id : ℕ) (master : SentMaster)
    (sfn offset : ℕ) : Type 0 where
  pub number : sfn ≤ 1023
  pub within : IsOffset offset
  pub signals : SignalsStandOut receiver.carrier recording id offset
  pub identity : IdentityIsBest receiver.carrier recording id offset
  pub broadcast :
      let first = number_at_start sfn offset in
      SpeakOfWord (pbch_c_init id) (receiver.count * (first % 4)) (word_of_master master first)
      (receiver.broadcast recording (sent_place id offset) 0)

-- ---- reception of the system information

-- The soft values of subframe 5 in the frame numbered `number` have the signs of the bits that `plan` sends there,
-- before scrambling. `indicator`: all 32 values of the control format indicator. `control`: the 288 values of the first
-- four control channel elements, which carry the grant. `block`: the values in the granted resource blocks.
pub record IsSystemHeard (carrier : Carrier) (values : Subframe) (plan : CellPlan) (number : ℕ) : Type 0 where
  pub indicator : Speak values.indicator plan.cfi
  pub control : SpeakInOrder (grant_word (grant_of plan number)) (values.candidate plan.cfi)
  pub block :
      AreHeard 1 (assigned_bits_of carrier plan) (shared_bit plan number)
      (values.shared plan.cfi plan.start plan.blocks)

-- A receiver that reads subframe 5 hears the system information in the first even-numbered whole frame. Nothing is
-- required for a receiver that does not read subframe 5.
abbrev pub IsSystemHeardBy : Carrier → Result Subframes Sib1Reason → List Sample → CellPlan → ℕ → ℕ → Type 0
IsSystemHeardBy carrier (Ok values) recording plan sfn offset =
    let first = number_at_start sfn offset in
    let j = even_frame first 0 in
    IsSystemHeard carrier (values recording (sent_place plan.identity offset) j plan.duration plan.resource) plan
    ((first + j) % 1024)
IsSystemHeardBy carrier (Err reason) recording plan sfn offset = Unit {0}

-- A receiver hears a cell of its transmission scheme that sends `plan`: it hears the cell's MIB and, if it reads
-- subframe 5, the cell's system information.
pub record IsHeardBy (receiver : Receiver) (recording : List Sample) (plan : CellPlan) (sfn offset : ℕ) : Type 0 where
  pub master :
      IsMasterHeard receiver recording plan.identity (master_of_plan receiver.carrier plan) sfn offset
  pub system : IsSystemHeardBy receiver.carrier receiver.subframe recording plan sfn offset
