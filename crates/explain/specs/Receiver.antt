-- A receiver: how to read the cells in a recording that use one transmission scheme. (own)
use Rattle.std.specs.Prelude.{ℕ, ◌*◌, ◌≤◌, Bool, true, nat_eq, nat_le, if◌then◌else◌, List, filter, ℤ, Option, Some, None, Result, Ok}
use Rattle.cs_num.specs.declared.Sample.{Sample}
use Rattle.lte_types.specs.CellPlace.{Place}
use Rattle.lte_types.specs.Frames.{Frames}
use Rattle.lte_types.specs.declared.carrier.Carrier.{Carrier}
use Rattle.lte_types.specs.declared.carrier.Carrier.TheVariants.{OnePort}
use Rattle.lte_types.specs.Carrier.{prefix_of}
use Rattle.lte_types.specs.Numerology.{symbol_step, is_extended}
use Rattle.lte_types.specs.declared.duration.Duration.{Duration}
use Rattle.lte_types.specs.declared.resource.Resource.{Resource}
use Rattle.lte_types.specs.declared.sib1_reason.Sib1Reason.{Sib1Reason}
use Rattle.lte_types.specs.declared.hit.Hit.{Hit}
use Rattle.pss_search.specs.Hits.{IsInSpan, hits_of}
use Rattle.sss_detect.specs.Place.{prefix_place}
use Rattle.soft_bits.specs.Places.{Valuing, placed_values}
use Rattle.pbch.specs.Values.{received_values_by, summed_values}
use Rattle.sib1_reader.specs.Subframe.{Subframe, subframe_by}
use Rattle.explain.specs.declared.scheme.Scheme.{Scheme}
use Rattle.explain.specs.Frame.{seen_slot, frame_at, broadcast_slot, values_in}

-- the soft values of subframe 5, by recording, the cell's place, frame index, PHICH duration and PHICH resource
abbrev pub Subframes : Type 0
Subframes = List Sample → Place → ℕ → Duration → Resource → Subframe

-- a receiver of one transmission scheme: its constants, and the soft values of a cell's PBCH and subframe 5
pub record Receiver : Type 0 where
  -- the transmission scheme
  pub carrier : Carrier
  -- the number of PBCH soft values in one frame
  pub count : ℕ
  -- the PBCH soft values in frame j of the cell at a place
  pub broadcast : List Sample → Place → ℕ → List ℤ
  -- the maximum number of frames that are combined for one MIB
  pub most_frames : ℕ
  -- the antenna port count that a MIB must carry; if there is none, every count is accepted
  pub ports : Option ℕ
  -- the soft values of subframe 5, from which system information is read, or the reason why system information is not
  -- read
  pub subframe : Result Subframes Sib1Reason

-- the constants of a receiver
abbrev pub scheme_of : Receiver → Scheme
scheme_of receiver = record {
  carrier = receiver.carrier;
  most_frames = receiver.most_frames;
  ports = receiver.ports;
}

-- whether a MIB with the antenna port count `count` is accepted
abbrev pub is_wanted : Option ℕ → ℕ → Bool
is_wanted None count = true
is_wanted (Some wanted) count = nat_eq count wanted

-- ---- receivers that read slots with the normal cyclic prefix, for any `Valuing`

-- the PBCH soft values in frame j of the cell at `place`, from slot 1 of the frame
abbrev pub broadcast_by : Valuing → List Sample → Place → ℕ → List ℤ
broadcast_by values recording place j = received_values_by values (broadcast_slot recording place.id place.start j)

-- the soft values of subframe 5 of frame j of the cell at `place`, from slots 10 and 11 of the frame
abbrev pub subframes_by : Carrier → Valuing → Subframes
subframes_by carrier values recording place j =
    subframe_by carrier values (seen_slot recording (frame_at place.start j) 10 place.id)
    (seen_slot recording (frame_at place.start j) 11 place.id)

-- the receiver for a transmission scheme with the normal cyclic prefix: a frame has 480 PBCH soft values, and up to
-- four frames are combined
abbrev pub by_slots : Carrier → Option ℕ → Valuing → Receiver
by_slots kind wanted values = record {
  carrier = kind;
  count = 480;
  broadcast = broadcast_by values;
  most_frames = 4;
  ports = wanted;
  subframe = Ok (subframes_by kind values);
}

-- the receiver for one antenna port: every MIB is accepted, whatever its port count
abbrev pub one_port_receiver : Receiver
one_port_receiver = by_slots OnePort None placed_values

-- ---- hits, places and sums for a receiver

-- whether the recording contains the useful part of the symbol before the hit's, which carries the secondary signal
abbrev pub has_step_before : Carrier → Hit → Bool
has_step_before carrier hit = nat_le (symbol_step (prefix_of carrier)) hit.t

-- the hits that a receiver uses: those for which the recording contains the useful part of the preceding symbol, which
-- carries the secondary signal. With the normal cyclic prefix these are all hits.
abbrev pub hits_by : Carrier → List Sample → List Hit
hits_by carrier recording =
    if is_extended (prefix_of carrier) then filter (has_step_before carrier) (hits_of recording) else hits_of recording

-- the hit lies in the span of one frame, and the recording contains the useful part of the preceding symbol, which
-- carries the secondary signal
pub record HasRoom (carrier : Carrier) (hit : Hit) : Type 0 where
  pub span : IsInSpan hit
  pub before : symbol_step (prefix_of carrier) ≤ hit.t

-- the place of a hit's cell, for a transmission scheme
abbrev pub place_by : Carrier → List Sample → Hit → Place
place_by carrier recording hit = prefix_place (prefix_of carrier) recording hit

-- the combined PBCH soft values of a cell's frames, by index and stream of the codeword. The first frame is at its
-- phase in the period of four.
abbrev pub sums_by : Receiver → List Sample → Place → Frames → List (List ℤ)
sums_by receiver recording place frames =
    summed_values place.id (receiver.count * frames.phase)
    (values_in (receiver.broadcast recording place) frames.count frames.first)
