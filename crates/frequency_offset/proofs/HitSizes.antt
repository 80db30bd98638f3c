-- Bounds on the fractions of hits in a corrected recording.
use Rattle.std.proofs.Common.{ℕ, ◌*◌, ◌^◌, ◌≤◌, List, arith, ℤ}
use Rattle.std.specs.Prelude.{All}
use Rattle.std.proofs.lemmas.Nat.{mul-le}
use Rattle.cs_num.specs.declared.Sample.{Sample}
use Rattle.pss_search.specs.Hits.{hits_of}
use Rattle.pss_search.proofs.Listed.{listed_in_span, listed_are_small}
use Rattle.pss_search.proofs.Symmetry.{power_range}
use Rattle.frequency_offset.specs.Turned.{turned}
use Rattle.frequency_offset.specs.Steps.{IsSmallHit}
use Rattle.frequency_offset.proofs.TurnedSamples.{turned-within}

whole_small : (a b : ℕ) → a ≤ 2 ^ 38 → b ≤ 2001665 → a * b ≤ 2 ^ 59
whole_small a b p q = omega (arith, mul-le a b (2 ^ 38) 2001665 p q)

pub hits_are_small : (recording : List Sample) (m : ℤ) → All IsSmallHit (hits_of (turned recording m))
hits_are_small recording m k d within =
    let span = listed_in_span (turned recording m) k d within in
    let small = listed_are_small (turned recording m) (turned-within recording m) k d within in
    record {
      span = span;
      fraction = record { peak = small.peak; whole = whole_small _ _ small.energy (power_range _ (omega (arith, span.root))).1 };
    }
