-- The receiver for the extended cyclic prefix reads only the first frames.
use Rattle.std.proofs.Common.{◌≡◌, ℕ, ◌<◌, ◌≤◌, List, arith, ap}
use Rattle.finite.proofs.Lists.{values_below_same}
use Rattle.cs_num.specs.declared.Cpx.{Cpx}
use Rattle.cs_num.specs.declared.Sample.{Sample}
use Rattle.lte_types.specs.CellPlace.{Place}
use Rattle.lte_types.specs.Numerology.{extended, useful_start, frame_length}
use Rattle.sample_file.specs.Recording.{AgreeBefore}
use Rattle.observe.specs.Seen.{seen_symbol}
use Rattle.observe.proofs.Agree.{symbol_agrees}
use Rattle.explain.specs.Frame.{frame_at}
use Rattle.explain.specs.Deciding.{deciding_length, LooksAtFirstFrames}
use Rattle.long_prefix.specs.Entries.{long_slot, long_values, long_prefix_receiver}

slot_agrees : (a b : List Sample) (place : Place) (j : ℕ) → AgreeBefore deciding_length a b → place.start < frame_length → j ≤ 15 →
    long_slot a place.id place.start j ≡ long_slot b place.id place.start j
unfolding long_slot
slot_agrees a b place j agree early few = ap (λ (symbols : List (List Cpx)). record { symbols = symbols; number = 1; identity = place.id })
    (values_below_same 6 (λ l. seen_symbol a (useful_start extended (frame_at place.start j) 1 l)) (λ l. seen_symbol b (useful_start extended (frame_at place.start j) 1 l))
    (λ l below. symbol_agrees deciding_length (useful_start extended (frame_at place.start j) 1 l) a b agree (omega (arith, early, few, below))))

pub long_looks : LooksAtFirstFrames long_prefix_receiver
long_looks = record {
  broadcast = λ a b place j agree early few. ap long_values (slot_agrees a b place j agree early few);
  subframes = λ a b place j agree early few. tt;
}
