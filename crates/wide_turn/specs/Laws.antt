-- Laws of wide recordings corrected by a frequency offset. (own)
use Rattle.std.specs.Prelude.{◌≡◌, ℕ, List, ℤ}
use Rattle.cs_num.specs.declared.Sample.{Sample}
use Rattle.frequency_offset.specs.Turned.{turned as turned_narrow}
use Rattle.wide_turn.specs.Turned.{turned, IsApplied}

-- a wide recording is corrected by its estimate in only one way
abbrev pub IsOneApplied : Type 0
IsOneApplied =
    (rate : ℕ) (samples first second : List Sample) → IsApplied rate samples first → IsApplied rate samples second →
    first ≡ second

-- at 1.92 million samples per second, a recording is corrected by an offset as recordings at that rate are
abbrev pub IsTurnedAlike : Type 0
IsTurnedAlike = (samples : List Sample) (m : ℤ) → turned 0 samples m ≡ turned_narrow samples m
