use Rattle.std.proofs.Common.{arith, pos, get_or}
use Rattle.std.proofs.lemmas.List.{length-replicate}
use Rattle.std.proofs.lemmas.List.Elements.{All-replicate}
use Rattle.cs_num.specs.Rounding.{clamped}
use Rattle.finite.proofs.Lists.{values_below_is}
use Rattle.turbo_dec.specs.Decoder.{IsSmall}
use Rattle.wide_block.proofs.table.limited_row.Goals as goal

pub loop-i-init : goal.loop-i-init
loop-i-init c = record {
  size = length-replicate 1028 (pos 0);
  at = λ j below. absurd (omega (arith, below));
  small = All-replicate IsSmall 1028 (pos 0) (omega arith);
}

pub returns-clause-value : goal.returns-clause-value
returns-clause-value c =
    values_below_is (pos 0) 1028 (λ i. clamped (get_or c.args.row.now i (pos 0)) 4096) c.loop-i.sums c.loop-i.invariant.size
    (λ j below. c.loop-i.invariant.at j (omega (arith, c.loop-i-test.false, below)))
