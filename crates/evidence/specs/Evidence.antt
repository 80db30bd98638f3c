-- Measurements that support an entry in a cell list. (own)
use Rattle.std.specs.Prelude.{◌≡◌, ℕ, ◌+◌, ◌-◌, ◌*◌, ◌/◌, ◌%◌, ◌<◌, ◌≤◌, if◌then◌else◌, Bool, List, [], ◌∷◌, ◌++◌, length, ℤ}
use Rattle.std.specs.List.{Contains}
use Rattle.finite.specs.Sums.{total_below}
use Rattle.cs_num.specs.declared.Cpx.{Cpx}
use Rattle.cs_num.specs.declared.Sample.{Sample}
use Rattle.cs_num.specs.Complex.{plus, minus, multiple, square, value_at}
use Rattle.crs.specs.Power.{point_power}
use Rattle.lte_types.specs.declared.carrier.Carrier.{Carrier}
use Rattle.lte_types.specs.Carrier.{prefix_of, ports_of}
use Rattle.lte_types.specs.Numerology.{is_extended}
use Rattle.lte_types.specs.declared.hit.Hit.{Hit}
use Rattle.lte_types.specs.declared.entry.Entry.{Entry}
use Rattle.lte_types.specs.declared.evidence.Evidence.{Evidence}
use Rattle.lte_types.specs.CellPlace.{Place}
use Rattle.pss_search.specs.Correlation.{peak, energy, wave_power}
use Rattle.pss_search.specs.Hits.{first_place, last_place}
use Rattle.pss_search.specs.Laws.{IsHitOf}
use Rattle.soft_bits.specs.Soft.{SeenSlot}
use Rattle.soft_bits.specs.Lines.{Line, line_of, line_pilot, ports_energy}
use Rattle.soft_bits.specs.Kept.{SeenLine, lines_of}
use Rattle.pbch.specs.Master.{total}
use Rattle.explain.specs.declared.readings.Reading.{Reading}
use Rattle.explain.specs.Frame.{broadcast_slot}
use Rattle.explain.specs.Receiver.{Receiver, one_port_receiver, hits_by, place_by, sums_by}
use Rattle.explain.specs.Entries.{place_of, frames_of}
use Rattle.long_prefix.specs.Entries.{long_slot}
use Rattle.tailbite.specs.LeastWord.{IsLeastWord}
use Rattle.code_distance.specs.Room.{IsRoom}
use Rattle.evidence.specs.declared.measured.Measured.{Measured}
use Rattle.evidence.specs.Receivers.{receiver_of}

-- ---- the PSS detection

-- a PSS detection at sample `t` has the entry's identity and start, as estimated for the transmission scheme `carrier`
pub record IsDetectedBy (carrier : Carrier) (recording : List Sample) (entry : Entry) (t : ℕ) : Type 0 where
  pub hit : Hit
  pub listed : Contains (hits_by carrier recording) hit
  pub place : hit.t ≡ t
  pub identity : (place_by carrier recording hit).id ≡ entry.id
  pub start : (place_by carrier recording hit).start ≡ entry.start

-- `t` is the earliest sample of a PSS detection with the entry's identity and start
pub record IsFirstDetectedBy (carrier : Carrier) (recording : List Sample) (entry : Entry) (t : ℕ) : Type 0 where
  pub detected : IsDetectedBy carrier recording entry t
  pub least : (u : ℕ) → IsDetectedBy carrier recording entry u → t ≤ u

-- the fraction of the energy of the 128 samples from `t` that the PSS for `n2` explains, in thousandths, rounded down:
-- 1000 C / (E P), with the squared correlation C, the energy E and the PSS's energy P
abbrev pub thousandths : List Sample → ℕ → ℕ → ℕ
thousandths recording n2 t = 1000 * peak recording n2 t / (energy recording t * wave_power n2)

-- ---- the pilots in the slot with the broadcast channel

-- the received slot with the PBCH in frame `j` of a cell
abbrev pub slot_by : Carrier → List Sample → Place → ℕ → SeenSlot
slot_by carrier recording place j =
    if is_extended (prefix_of carrier) then long_slot recording place.id place.start j
    else broadcast_slot recording place.id place.start j

-- the second difference of three pilots in one symbol: the sum of a pilot's two neighbours, minus twice the pilot. The
-- next pilot in the same symbol is `stride` pilots later, so a phase step between symbols adds nothing.
abbrev pub second_difference : ℕ → (ℕ → Cpx) → ℕ → Cpx
second_difference stride pilots i =
    minus (plus (pilots i) (pilots (i + 2 * stride))) (multiple 2 (pilots (i + stride)))

-- the squared magnitude of the second difference that begins at pilot `i`
abbrev pub difference_power : ℕ → (ℕ → Cpx) → ℕ → ℕ
difference_power stride pilots i = square (second_difference stride pilots i)

-- the sum of the squared second differences of an antenna port's `count` pilots
unfoldable pub differences : ℕ → ℕ → (ℕ → Cpx) → ℕ
differences count stride pilots = total_below (count - 2 * stride) (difference_power stride pilots)

-- the sum of the squared second differences of an antenna port's pilots in a slot; the next pilot in the same symbol is
-- six subcarriers away
abbrev pub line_differences : Line → SeenSlot → ℕ
line_differences line slot = differences (line.last + 1) (6 / line.step) (line_pilot line slot)

-- the sum of the squared second differences over all antenna ports: 20, 40 or 60 of them
abbrev pub differences_by : Carrier → SeenSlot → ℕ
differences_by carrier slot = total_below (ports_of carrier) (λ port. line_differences (line_of carrier port slot) slot)

-- the noise estimate: the sum `differences` of the squared second differences, divided by six times a reference value's
-- squared magnitude and rounded down. Independent errors with variance v in the received elements give a second
-- difference with variance 6 v times that squared magnitude.
abbrev pub noise_of : ℕ → ℕ
noise_of differences = differences / (6 * point_power)

-- ---- a slot's measurements

-- a slot's measurements: the pilots' energy and their squared second differences, over all antenna ports; each port's
-- pilots; and the PBCH's soft values in received order
pub record SlotShown : Type 0 where
  pub power : ℕ
  pub differences : ℕ
  pub channel : List SeenLine
  pub values : List ℤ

-- the measurements of a slot whose PBCH soft values are `received`
abbrev pub shown_by : Carrier → SeenSlot → List ℤ → SlotShown
shown_by carrier slot received = record {
  power = ports_energy carrier slot;
  differences = differences_by carrier slot;
  channel = lines_of carrier slot;
  values = received;
}

-- the measurements of the slot with the PBCH in frame `j` of a cell
abbrev pub shown_in : Carrier → List Sample → Place → ℕ → SlotShown
shown_in carrier recording place j =
    shown_by carrier (slot_by carrier recording place j) ((receiver_of carrier).broadcast recording place j)

-- ---- an entry's measurements

-- `numbers` are the entry's measurements by `receiver`
pub record IsEvidenceFor (receiver : Receiver) (recording : List Sample) (entry : Entry) (numbers : Evidence) :
    Type 0 where
  pub id : numbers.id ≡ entry.id
  pub start : numbers.start ≡ entry.start
  pub sfn : numbers.sfn ≡ entry.sfn
  pub t : IsFirstDetectedBy receiver.carrier recording entry numbers.t
  pub peak : numbers.peak ≡ thousandths recording (entry.id % 3) numbers.t
  pub cost : numbers.cost ≡ entry.cost
  pub total : numbers.total ≡ total (sums_by receiver recording (place_of entry) (frames_of entry))
  pub frames : numbers.frames ≡ entry.frames
  pub frame : numbers.frame ≡ entry.frame
  pub phase : numbers.phase ≡ entry.phase
  pub power : numbers.power ≡ (shown_in receiver.carrier recording (place_of entry) entry.frame).power
  pub noise : numbers.noise ≡ noise_of (shown_in receiver.carrier recording (place_of entry) entry.frame).differences

-- the measurements of an entry by the receiver for one antenna port
abbrev pub IsEvidence : List Sample → Entry → Evidence → Type 0
IsEvidence = IsEvidenceFor one_port_receiver

-- `room` is the room of the word that is decoded from soft values: every other word costs at least this word's cost and
-- the room
pub record HasRoom (values : List (List ℤ)) (room : ℤ) : Type 0 where
  pub word : List Bool
  pub least : IsLeastWord values word
  pub room_is : IsRoom values word room

-- `measured` holds the entry's measurements by `receiver`, and the room of its MIB's codeword
pub record IsMeasuredFor (receiver : Receiver) (recording : List Sample) (entry : Entry) (measured : Measured) :
    Type 0 where
  pub numbers : IsEvidenceFor receiver recording entry measured.numbers
  pub room : HasRoom (sums_by receiver recording (place_of entry) (frames_of entry)) measured.room

-- `numbers` are within the ranges of an entry's measurements
pub record IsInRange (numbers : Evidence) : Type 0 where
  pub from_first : first_place ≤ numbers.t
  pub to_last : numbers.t ≤ last_place
  pub quarter : 250 ≤ numbers.peak
  pub whole : numbers.peak ≤ 1000
  pub heard : 0 < numbers.total
  pub clear : 4 * numbers.cost ≤ numbers.total

-- ---- the program's computation

-- `hit` is the first PSS detection with the entry's identity and start, with its measured correlation and energy
pub record IsHitOfEntry (carrier : Carrier) (recording : List Sample) (entry : Entry) (hit : Hit) : Type 0 where
  pub is_hit : IsHitOf recording hit
  pub first : IsFirstDetectedBy carrier recording entry hit.t
  pub root : hit.n2 ≡ entry.id % 3

-- the PSS that `hit` detects explains at most all of the energy, which is not 0
pub record HasFraction (hit : Hit) : Type 0 where
  pub root : hit.n2 ≤ 2
  pub sounds : 0 < hit.energy
  pub within : hit.peak ≤ hit.energy * wave_power hit.n2

-- a slot's measurements with the pilots of one more antenna port
abbrev pub with_port : SlotShown → SeenLine → SlotShown
with_port shown port = record {
  power = shown.power;
  differences = shown.differences + differences (length port.pilots) (6 / port.step) (value_at port.pilots);
  channel = shown.channel ++ port ∷ [];
  values = shown.values;
}

-- the measurements of `entry`, given its reading and the measurements of its slot
abbrev pub numbers_by : Entry → Reading → SlotShown → Evidence
numbers_by entry reading shown = record {
  id = entry.id;
  start = entry.start;
  sfn = entry.sfn;
  t = reading.hit.t;
  peak = 1000 * reading.hit.peak / (reading.hit.energy * wave_power reading.hit.n2);
  cost = entry.cost;
  total = total reading.sums;
  frames = entry.frames;
  frame = entry.frame;
  phase = entry.phase;
  power = shown.power;
  noise = noise_of shown.differences;
}
