-- The list of cells with the extended cyclic prefix in a recording, up to the MIB. (own)
use Rattle.std.specs.Prelude.{◌≡◌, ℕ, ◌/◌, ◌%◌, List, slice_index_or, ℤ, pos, None, Err}
use Rattle.cs_num.specs.declared.Sample.{Sample}
use Rattle.cs_num.specs.Complex.{times, conjugate}
use Rattle.finite.specs.Lists.{values_below}
use Rattle.lte_types.specs.declared.carrier.Carrier.TheVariants.{LongPrefix}
use Rattle.lte_types.specs.declared.sib1_reason.Sib1Reason.TheVariants.{LongPrefix as Extended}
use Rattle.lte_types.specs.declared.entry.Entry.{Entry}
use Rattle.lte_types.specs.Numerology.{extended, useful_start}
use Rattle.observe.specs.Seen.{seen_symbol}
use Rattle.crs.specs.Reference.{long_prefix}
use Rattle.grid_map.specs.declared.Place.{Place as GridPlace}
use Rattle.grid_map.specs.Place.{place}
use Rattle.soft_bits.specs.Kept.{SeenLine, seen_line}
use Rattle.soft_bits.specs.Lines.{line_of}
use Rattle.soft_bits.specs.Soft.{SeenSlot, seen_at, pattern_channel, pattern_energy, soft_pair}
use Rattle.explain.specs.Frame.{frame_at}
use Rattle.explain.specs.Receiver.{Receiver}
use Rattle.explain.specs.Entries.{IsListFor}
use Rattle.explain.specs.declared.readings.Reading.{Reading}
use Rattle.explain.specs.Readings.{IsReadingFor}
use Rattle.grid_map.specs.LongBroadcast.{long_places}

-- ---- frames

-- slot 1 in frame `j` of a cell, which carries the PBCH: its six received symbols
unfoldable pub long_slot : List Sample → ℕ → ℕ → ℕ → SeenSlot
long_slot recording identity start j =
    record {
      symbols = values_below 6 (λ symbol. seen_symbol recording (useful_start extended (frame_at start j) 1 symbol));
      number = 1;
      identity = identity;
    }

-- `pilots` are the pilots of `slot` with the extended cyclic prefix
unfoldable pub ArePilots : SeenSlot → SeenLine → Type 0
ArePilots slot pilots = pilots ≡ seen_line (line_of LongPrefix 0 slot) slot

-- the two soft values of the resource element `p` in slot 1, with the channel estimate from the reference signals of
-- symbols 0 and 3
unfoldable pub long_pair : SeenSlot → GridPlace → List ℤ
long_pair slot p =
    soft_pair (times (seen_at slot p.symbol p.k) (conjugate (pattern_channel long_prefix slot p.k)))
    (pattern_energy long_prefix slot)

-- PBCH soft value `i` of 432 in slot 1; a resource element has two, the real part first
abbrev pub long_value : SeenSlot → ℕ → ℤ
long_value slot i =
    slice_index_or (long_pair slot (slice_index_or (long_places slot.identity) (i / 2) (place 0 0))) (i % 2) (pos 0)

-- the 432 PBCH soft values of slot 1
unfoldable pub long_values : SeenSlot → List ℤ
long_values slot = values_below 432 (long_value slot)

-- ---- the receiver

-- the receiver for the extended cyclic prefix: it has 432 PBCH soft values per frame, combines no frames, accepts MIBs
-- with any antenna port count, and does not read subframe 5
abbrev pub long_prefix_receiver : Receiver
long_prefix_receiver = record {
  carrier = LongPrefix;
  count = 432;
  broadcast = λ recording place j. long_values (long_slot recording place.id place.start j);
  most_frames = 1;
  ports = None;
  subframe = Err Extended;
}

-- the list of cells with the extended cyclic prefix in a recording
abbrev pub IsExplainedOfLong : List Sample → List Entry → Type 0
IsExplainedOfLong = IsListFor long_prefix_receiver

-- the reading of an entry in the list of cells with the extended cyclic prefix
abbrev pub IsReadingOfLong : List Sample → Entry → Reading → Type 0
IsReadingOfLong = IsReadingFor long_prefix_receiver
