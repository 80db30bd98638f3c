use Rattle.std.proofs.Common.{◌≡◌, ◌∙◌, ◌+◌, ◌<◌, ◌++◌, ◌∷◌, [], Bool, Vec, Global, List, length, ap, arith, rules, sym}
use Rattle.std.proofs.lemmas.List.{length_push, length-set, nil_from_length}
use Rattle.evidence.specs.Shown.{with_blocks}
use Rattle.evidence.proofs.SetBlocks.{bits_of, none_replaced, one_replaced}
use Rattle.evidence.proofs.support.set_blocks.Goals as goal

pub loop-bits-preserved : goal.loop-bits-preserved
loop-bits-preserved c =
    let shown = c.loop-bits.supports in
    let blocks = c.loop-bits.blocks.items in
    let left = c.pop.new.self.items in
    let last = c.in-Some.bits in
    let split : blocks ≡ left ++ last ∷ [] = c.in-Some.ensures.items in
    let size : length blocks ≡ length left + 1 = ap (λ (blocks : List (Vec Bool Global)). length blocks) split ∙ length_push left last in
    let few = c.loop-bits.invariant.few in
    let at_is : c.len.result ≡ length left = omega (arith, c.len.ensures) in
    record {
      few = omega (arith, length-set shown c.len.result c.set_block.new.self, size, few);
      same =
          one_replaced shown blocks left last c.len.result c.set_block.new.self c.index-supports-len.result split at_is (omega (arith, at_is, size, few)) c.set_block.ensures
          ∙ c.loop-bits.invariant.same;
    }

pub returns : goal.returns
returns c =
    let shown = c.loop-bits.supports in
    let empty : c.loop-bits.blocks.items ≡ [] = nil_from_length _ (search rules) in
    sym (none_replaced shown) ∙ ap (λ (blocks : List (Vec Bool Global)). with_blocks shown (bits_of blocks)) (sym empty) ∙ c.loop-bits.invariant.same
