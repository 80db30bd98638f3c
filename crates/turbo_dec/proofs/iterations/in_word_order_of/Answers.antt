use Rattle.std.proofs.Common.{◌≡◌, arith, pos, refl, ◌∙◌, subst, sym, get_or, set, ◌<◌, ◌+◌, ℕ}
use Rattle.std.proofs.lemmas.List.{length-replicate, length-set}
use Rattle.std.proofs.lemmas.List.Elements.{All-set, All-replicate}
use Rattle.turbo_code.specs.Table.{interleaver}
use Rattle.turbo_code.proofs.TableFacts.{is_small}
use Rattle.turbo_dec.specs.Decoder.{IsSmall, at}
use Rattle.turbo_dec.proofs.Small.{small_back, small_item}
use Rattle.turbo_code.proofs.Orders.{placed_more, in_word_order_is}
use Rattle.turbo_dec.proofs.iterations.in_word_order_of.Goals as goal

pub loop-i-init : goal.loop-i-init
loop-i-init c = record {
  size = length-replicate 1024 (pos 0);
  at = λ j below. absurd (omega (arith, below));
  small = All-replicate IsSmall 1024 (pos 0) (omega arith);
}

pub bounds-ordered-interleaver : goal.bounds-ordered-interleaver
bounds-ordered-interleaver c = let high = (is_small c.args.row.now c.requires.row).high in omega (arith, high, c.interleaver.ensures.inside)

pub loop-i-preserved : goal.loop-i-preserved
loop-i-preserved c =
    let known = c.loop-i.invariant in
    let small = small_item c.args.values.now c.loop-i.i c.requires.small in
    rw (small_back (at c.args.values.now c.loop-i.i) small)
    record {
      size = length-set c.loop-i.ordered _ _ ∙ known.size;
      at = subst (λ p. (j : ℕ) → j < c.loop-i.i + 1 → get_or (set c.loop-i.ordered p (at c.args.values.now c.loop-i.i)) (interleaver c.args.row.now j) (pos 0) ≡ at c.args.values.now j)
          (sym c.interleaver.ensures.bit)
          (placed_more (pos 0) c.args.row.now c.args.values.now c.loop-i.ordered c.loop-i.i _ c.requires.row (omega (arith, c.loop-i-test.true)) known.size refl known.at);
      small = All-set IsSmall c.loop-i.ordered _ _ small known.small;
    }

pub returns-clause-values : goal.returns-clause-values
returns-clause-values c =
    in_word_order_is (pos 0) c.args.row.now c.args.values.now c.loop-i.ordered c.loop-i.i c.requires.row (omega (arith, c.loop-i-test.false)) c.loop-i.invariant.size c.loop-i.invariant.at
