use Rattle.std.proofs.Common.{◌≡◌, ◌^◌}
use Rattle.std.specs.Prelude.{All}
use Rattle.finite.specs.Lists.{values_below}
use Rattle.cs_num.specs.Complex.{IsWithin}
use Rattle.tones.specs.Seen.{seen}
use Rattle.tones.proofs.symbol.demodulate.Given as goal

abbrev pub invariant-loop-k : goal.invariant-loop-k
invariant-loop-k l = record {
  value : l.values.items ≡ values_below l.k (seen l.wide l.blocks l.start);
  small : All (IsWithin (2 ^ 25)) l.values.items;
}
