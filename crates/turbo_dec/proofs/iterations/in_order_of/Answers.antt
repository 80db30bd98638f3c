use Rattle.std.proofs.Common.{arith, pos, ap, ◌∙◌}
use Rattle.std.proofs.lemmas.List.{length-replicate, length-set}
use Rattle.std.proofs.lemmas.List.Elements.{All-set, All-replicate}
use Rattle.finite.proofs.Lists.{set_more}
use Rattle.turbo_code.specs.Table.{interleaver}
use Rattle.turbo_code.proofs.TableFacts.{is_small}
use Rattle.turbo_dec.specs.Decoder.{IsSmall, at}
use Rattle.turbo_dec.proofs.Small.{small_back, small_item}
use Rattle.turbo_code.proofs.Orders.{in_order_is}
use Rattle.turbo_dec.proofs.iterations.in_order_of.Goals as goal

pub loop-i-init : goal.loop-i-init
loop-i-init c = record {
  size = length-replicate 1024 (pos 0);
  at = λ j below. absurd (omega (arith, below));
  small = All-replicate IsSmall 1024 (pos 0) (omega arith);
}

pub bounds-ordered-i : goal.bounds-ordered-i
bounds-ordered-i c = let high = (is_small c.args.row.now c.requires.row).high in omega (arith, high, c.loop-i-test.true)

pub loop-i-preserved : goal.loop-i-preserved
loop-i-preserved c =
    let known = c.loop-i.invariant in
    let high = (is_small c.args.row.now c.requires.row).high in
    let small = small_item c.args.values.now c.interleaver.result c.requires.small in
    rw (small_back (at c.args.values.now c.interleaver.result) small)
    record {
      size = length-set c.loop-i.ordered c.loop-i.i _ ∙ known.size;
      at = set_more (pos 0) c.loop-i.i (λ j. at c.args.values.now (interleaver c.args.row.now j)) c.loop-i.ordered _ (omega (arith, high, known.size, c.loop-i-test.true))
          (ap (at c.args.values.now) c.interleaver.ensures.bit) known.at;
      small = All-set IsSmall c.loop-i.ordered c.loop-i.i _ small known.small;
    }

pub returns-clause-values : goal.returns-clause-values
returns-clause-values c =
    in_order_is (pos 0) c.args.row.now c.args.values.now c.loop-i.ordered c.loop-i.i c.requires.row (omega (arith, c.loop-i-test.false)) c.loop-i.invariant.size c.loop-i.invariant.at
