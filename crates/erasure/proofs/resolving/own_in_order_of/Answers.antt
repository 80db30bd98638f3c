use Rattle.std.proofs.Common.{arith, false, get_or, ap, ◌∙◌}
use Rattle.std.specs.Prelude.{◌||◌}
use Rattle.std.proofs.lemmas.List.{length-set}
use Rattle.finite.proofs.Lists.{set_more}
use Rattle.turbo_code.specs.Table.{interleaver}
use Rattle.turbo_code.proofs.TableFacts.{is_small}
use Rattle.erasure.specs.Sets.{above_zero}
use Rattle.erasure.proofs.resolving.own_in_order_of.Goals as goal

pub is_sent-requires-clause-index : goal.is_sent-requires-clause-index
is_sent-requires-clause-index c = let high = (is_small c.args.row.now c.requires.row).high in omega (arith, high, c.interleaver-k.ensures.inside)

pub loop-i-preserved : goal.loop-i-preserved
loop-i-preserved c =
    let known = c.loop-i.invariant in
    let high = (is_small c.args.row.now c.requires.row).high in
    record {
      size = length-set c.loop-i.marks c.loop-i.i _ ∙ known.size;
      at = set_more false c.loop-i.i ((λ j. above_zero c.args.counts.now 0 (interleaver c.args.row.now j) || get_or c.args.known.now (interleaver c.args.row.now j) false)) c.loop-i.marks _ (omega (arith, high, known.size, c.loop-i-test.true)) (ap (λ b. b || get_or c.args.known.now c.interleaver-k.result false) c.is_sent.ensures ∙ ap (λ p. above_zero c.args.counts.now 0 p || get_or c.args.known.now p false) c.interleaver-k.ensures.bit) known.at;
    }

pub bounds-known-k : goal.bounds-known-k
bounds-known-k c = let high = (is_small c.args.row.now c.requires.row).high in omega (arith, high, c.interleaver-k.ensures.inside)

pub bounds-marks-i : goal.bounds-marks-i
bounds-marks-i c = let high = (is_small c.args.row.now c.requires.row).high in omega (arith, high, c.loop-i-test.true)
