-- The frames of a recording, and their demodulated slots.
use Rattle.std.specs.Prelude.{ℕ, ◌+◌, ◌*◌, ◌≤◌, List, length, ℤ}
use Rattle.std.specs.List.{flat_map}
use Rattle.finite.specs.Lists.{values_below}
use Rattle.cs_num.specs.declared.Sample.{Sample}
use Rattle.lte_types.specs.Numerology.{frame_length, normal, useful_start}
use Rattle.observe.specs.Seen.{seen_symbol}
use Rattle.soft_bits.specs.Soft.{SeenSlot}

-- the first sample of frame j of a cell whose frame 0 begins at sample `start` (TS 36.211 section 4.1)
abbrev pub frame_at : ℕ → ℕ → ℕ
frame_at start j = start + frame_length * j

-- frame j of a cell whose frame 0 begins at sample `start` lies within the recording
abbrev pub IsWhole : List Sample → ℕ → ℕ → Type 0
IsWhole recording start j = start + frame_length * (j + 1) ≤ length recording

-- the demodulated slot `number`, 0 to 19, in a frame that begins at sample f: its seven symbols, with the normal cyclic
-- prefix
unfoldable pub seen_slot : List Sample → ℕ → ℕ → ℕ → SeenSlot
seen_slot recording f number identity =
    record {
      symbols = values_below 7 (λ symbol. seen_symbol recording (useful_start normal f number symbol));
      number = number;
      identity = identity;
    }

-- the demodulated slot that carries the PBCH, slot 1, in frame j of a cell whose frame 0 begins at sample `start` (TS
-- 36.211 section 6.6.4)
abbrev pub broadcast_slot : List Sample → ℕ → ℕ → ℕ → SeenSlot
broadcast_slot recording identity start j = seen_slot recording (frame_at start j) 1 identity

-- the soft values of `count` consecutive frames from frame j, in frame order, where `values` gives those of one frame
abbrev pub values_in : (ℕ → List ℤ) → ℕ → ℕ → List ℤ
values_in values count j = flat_map (λ frame. frame) (values_below count (λ m. values (j + m)))
