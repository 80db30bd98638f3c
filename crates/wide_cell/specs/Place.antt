-- Resource elements in a subframe (TS 36.211 section 6.2.2).
use Rattle.std.specs.Prelude.{ℕ}
use Rattle.wide_cell.specs.declared.place.WidePlace.{WidePlace}

-- the resource element in a symbol at a subcarrier
abbrev pub place : ℕ → ℕ → WidePlace
place symbol k = record { symbol = symbol; k = k }
