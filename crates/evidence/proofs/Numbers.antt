-- An entry's measurements, given its reading and its slot's measurements.
use Rattle.std.proofs.Common.{◌≡◌, ◌*◌, List, arith, refl, ap}
use Rattle.cs_num.specs.declared.Sample.{Sample}
use Rattle.lte_types.specs.declared.entry.Entry.{Entry}
use Rattle.pss_search.specs.Correlation.{wave_power}
use Rattle.pbch.specs.Master.{total}
use Rattle.explain.specs.declared.readings.Reading.{Reading}
use Rattle.explain.specs.Entries.{IsEntryFor, place_of, frames_of}
use Rattle.explain.specs.Laws.{IsEntryOfSome}
use Rattle.explain.specs.Readings.{IsReadingFor}
use Rattle.explain.specs.Receiver.{Receiver, hits_by, sums_by}
use Rattle.evidence.specs.Evidence.{SlotShown, shown_in, noise_of, numbers_by, IsEvidenceFor, IsInRange, IsHitOfEntry, HasFraction}
use Rattle.evidence.proofs.Fractions.{at_most_whole, hit_sounds, hit_within, hit_is_clear, hit_fraction}
use Rattle.evidence.proofs.Least.{first_decodes}

module _ (receiver : Receiver) (recording : List Sample) (entry : Entry) (reading : Reading) (e : IsEntryOfSome (IsEntryFor receiver recording) (hits_by receiver.carrier recording) entry)
    (r : IsReadingFor receiver recording entry reading) where
  -- the reading's PSS detection is the first with the entry's identity and start
  hit_is : IsHitOfEntry receiver.carrier recording entry reading.hit
  hit_is = first_decodes receiver.carrier recording entry reading.hit r.hit

  pub has_fraction : HasFraction reading.hit
  has_fraction = record {
    root = let third = hit_is.is_hit.root in omega (arith, third);
    sounds = hit_sounds receiver.carrier recording entry reading.hit hit_is;
    within = hit_within receiver.carrier recording entry reading.hit hit_is;
  }

  -- the numbers computed from it and from the slot's measurements are the entry's
  pub are_numbers : (shown : SlotShown) → shown ≡ shown_in receiver.carrier recording (place_of entry) entry.frame → IsEvidenceFor receiver recording entry (numbers_by entry reading shown)
  are_numbers shown is = record {
    id = refl;
    start = refl;
    sfn = refl;
    t = hit_is.first;
    peak = hit_fraction receiver.carrier recording entry reading.hit hit_is;
    cost = refl;
    total = ap total r.sums;
    frames = refl;
    frame = refl;
    phase = refl;
    power = ap (λ (s : SlotShown). s.power) is;
    noise = ap (λ (s : SlotShown). noise_of s.differences) is;
  }

  -- the numbers are in their ranges
  pub are_in_range : (shown : SlotShown) → IsInRange (numbers_by entry reading shown)
  are_in_range shown =
      let master = e.is_of.master.decoded in
      let heard = master.decodes.heard in
      let clear = master.decodes.clear in
      let all : total reading.sums ≡ total (sums_by receiver recording (place_of entry) (frames_of entry)) = ap total r.sums in
      record {
        from_first = hit_is.is_hit.is_hit.from_first;
        to_last = hit_is.is_hit.is_hit.to_last;
        quarter = hit_is_clear receiver.carrier recording entry reading.hit hit_is;
        whole = at_most_whole reading.hit.peak (reading.hit.energy * wave_power reading.hit.n2) has_fraction.within;
        heard = omega (arith, heard, all);
        clear = omega (arith, clear, all, master.cost);
      }
