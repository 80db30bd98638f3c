use Rattle.std.proofs.Common.{◌≡◌}
use Rattle.finite.specs.Lists.{values_below}
use Rattle.soft_bits.specs.Soft.{AreSmall}
use Rattle.tones.specs.Seen.{seen_symbol, wide_start}
use Rattle.wide_slot.proofs.slot.symbols_of.Given as goal

abbrev pub invariant-loop-symbol : goal.invariant-loop-symbol
invariant-loop-symbol l = record {
  value : l.symbols.items ≡ values_below l.symbol (λ symbol. seen_symbol l.wide l.cell.blocks (wide_start l.wide.rate l.frame l.number symbol));
  small : AreSmall l.symbols.items;
}
