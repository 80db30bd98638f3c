-- The receivers' soft values fit in certificates.
use Rattle.std.proofs.Common.{◌≡◌, List, length, sym, subst, arith}
use Rattle.std.specs.List.{AllZip}
use Rattle.finite.proofs.Lists.{values_below-length}
use Rattle.cs_num.specs.declared.Sample.{Sample}
use Rattle.lte_types.specs.declared.carrier.Carrier.{Carrier}
use Rattle.lte_types.specs.declared.carrier.Carrier.TheVariants.{OnePort, TwoPorts, LongPrefix, FourPorts}
use Rattle.lte_types.specs.declared.entry.Entry.{Entry}
use Rattle.grid_map.specs.Broadcast.{pbch_places}
use Rattle.grid_map.proofs.Points.{length-pbch_places}
use Rattle.soft_bits.specs.Pairs.{Pairing, over_two, over_four, paired_by}
use Rattle.soft_bits.specs.Soft.{SeenSlot}
use Rattle.soft_bits.proofs.Paired.{length-paired_by, paired_by-small}
use Rattle.pbch.proofs.FrameSums.{length-received_values, received_values-small}
use Rattle.certificates.specs.Certifying.{HasSmallValues}
use Rattle.explain.specs.Entries.{IsListFor}
use Rattle.explain.specs.Frame.{broadcast_slot}
use Rattle.explain.specs.Readings.{IsReadingFor}
use Rattle.explain.specs.Receiver.{Receiver}
use Rattle.explain.specs.declared.readings.Reading.{Reading}
use Rattle.long_prefix.specs.Entries.{long_slot, long_value, long_values}
use Rattle.long_prefix.proofs.Pairs.{long_values-small}
use Rattle.evidence.specs.Receivers.{receiver_of}
use Rattle.lte_top.specs.Searching.{IsListOf}

length-pairs : (pairing : Pairing) (slot : SeenSlot) → length (paired_by pairing (λ p. slot) (pbch_places slot.identity)) ≡ 480
length-pairs pairing slot =
    let all = length-paired_by pairing (λ p. slot) (pbch_places slot.identity) in omega (arith, all, length-pbch_places slot.identity)

length-long : (slot : SeenSlot) → length (long_values slot) ≡ 432
unfolding long_values
length-long slot = values_below-length 432 (long_value slot)

pub small_values : (carrier : Carrier) → HasSmallValues (receiver_of carrier)
small_values OnePort = record {
  few = λ recording place j. let size = length-received_values (broadcast_slot recording place.id place.start j) in omega (arith, size);
  small = λ recording place j. received_values-small (broadcast_slot recording place.id place.start j);
}
small_values TwoPorts = record {
  few = λ recording place j. let size = length-pairs over_two (broadcast_slot recording place.id place.start j) in omega (arith, size);
  small = λ recording place j. let slot = broadcast_slot recording place.id place.start j in paired_by-small over_two (λ p. slot) (pbch_places slot.identity);
}
small_values LongPrefix = record {
  few = λ recording place j. let size = length-long (long_slot recording place.id place.start j) in omega (arith, size);
  small = λ recording place j. long_values-small (long_slot recording place.id place.start j);
}
small_values FourPorts = record {
  few = λ recording place j. let size = length-pairs over_four (broadcast_slot recording place.id place.start j) in omega (arith, size);
  small = λ recording place j. let slot = broadcast_slot recording place.id place.start j in paired_by-small over_four (λ p. slot) (pbch_places slot.identity);
}

-- a receiver can certify the cell list that it made, from how each entry was decoded
pub certifiable : (receiver : Receiver) (carrier : Carrier) → receiver ≡ receiver_of carrier → (recording : List Sample) (list : List Entry) (readings : List Reading) →
    IsListOf carrier recording list → AllZip (IsReadingFor (receiver_of carrier) recording) list readings →
    HasSmallValues receiver × (IsListFor receiver recording list × AllZip (IsReadingFor receiver recording) list readings)
certifiable receiver carrier same recording list readings is read =
    subst (λ r. HasSmallValues r × (IsListFor r recording list × AllZip (IsReadingFor r recording) list readings)) (sym same) (small_values carrier, (is.explained, read))
