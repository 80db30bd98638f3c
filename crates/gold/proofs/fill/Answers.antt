use Rattle.std.proofs.Common.{◌+◌, ◌-◌, ◌≤◌, ◌≡◌, length, false, arith, ap, ◌∙◌, get_or, rules, take, drop, bit_xor}
use borrow.Rule.Slice.PartMut.{put_mid}
use Rattle.gold.specs.Register.{low_bits}
use Rattle.std.proofs.lemmas.List.FromFn.{fill_by_all}
use Rattle.gold.specs.Gold.{gold_bit, gold_bits}
use Rattle.gold.proofs.Registers.{stand_at_start, stand_further, sum-bits, length-low_bits}
use Rattle.gold.proofs.Pieces.{piece_more}
use Rattle.gold.proofs.fill.Goals as goal

pub loop-block-init : goal.loop-block-init
loop-block-init c = stand_at_start c.args.c_init c.requires

pub loop-block-preserved : goal.loop-block-preserved
loop-block-preserved c =
    stand_further _ _ _ _ _ _ _ c.loop-block.invariant (omega arith)
    c.later_x1-first.ensures.fits c.later_x1-first.ensures.later
    c.later_x2-second.ensures.fits c.later_x2-second.ensures.later

pub loop-at-init : goal.loop-at-init
loop-at-init c = record {
  registers = let all : c.loop-block._block ≡ 64 = omega arith in rw all at c.loop-block.invariant;
  written = λ k below. absurd (omega (arith, below));
}

pub loop-at-preserved : goal.loop-at-preserved
loop-at-preserved c =
    let at = c.loop-at.at in
    let size = c.min-end.result - at in
    let inside : at + size ≤ length c.loop-at.out = omega (arith, c.loop-at-test.true, c.min-end.ensures) in
    let few : size ≤ 25 = omega (arith, c.min-end.ensures) in
    record {
      registers = stand_further _ _ _ _ _ _ _ c.loop-at.invariant.registers (omega arith)
          c.later_x1-first-in-loop-at.ensures.fits c.later_x1-first-in-loop-at.ensures.later
          c.later_x2-second-in-loop-at.ensures.fits c.later_x2-second-in-loop-at.ensures.later;
      written = λ k below known.
          let part : length (take size (drop at c.loop-at.out)) ≡ size = search rules in
          let new : c.put_low_bits.new.out ≡ low_bits size (bit_xor c.loop-at.first c.loop-at.second) =
          c.put_low_bits.ensures ∙ ap (λ n. low_bits n (bit_xor c.loop-at.first c.loop-at.second)) part in
          let full : length c.put_low_bits.new.out ≡ size = ap length new ∙ length-low_bits size _ in
          let same : length (put_mid at size c.loop-at.out c.put_low_bits.new.out) ≡ length c.loop-at.out = search rules in
          piece_more (gold_bit c.args.c_init) at size c.loop-at.out c.put_low_bits.new.out inside full c.loop-at.invariant.written
          (λ j here. ap (λ bits. get_or bits j false) new
          ∙ sum-bits c.args.c_init at c.loop-at.first c.loop-at.second size j c.loop-at.invariant.registers (omega (arith, here, few)) here)
          k (omega (arith, below, known, same, c.min-end.ensures));
    }

pub returns : goal.returns
unfolding gold_bits
returns c =
    fill_by_all (gold_bit c.args.c_init) c.loop-at.out (length c.args.out.now) false (omega arith) (λ k inside. c.loop-at.invariant.written k (omega arith) (omega arith))
