use Rattle.std.proofs.Common.{◌≡◌, ◌∙◌, ℕ, ◌+◌, ◌++◌, ◌∷◌, ◌<◌, [], Bool, List, Vec, Global, length, arith, ap, sym, subst}
use Rattle.std.specs.List.{HoldsAt}
use Rattle.std.proofs.lemmas.List.{length_push}
use Rattle.lte_types.specs.declared.entry.Entry.{Entry}
use Rattle.wide_list.specs.Bits.{AreWideBits}
use Rattle.wide_list.proofs.Lists.{AreInformed, none_informed, one_more, all_informed, zip_of}
use Rattle.wide_list.proofs.Reading.{each_more}
use Rattle.wide_list.proofs.informing.inform_each.Goals as goal

pub loop-at-init : goal.loop-at-init
loop-at-init c = record {
  informed = none_informed c.args.carrier c.args.wide.now c.args.list.now;
  size = ap (λ (blocks : List (Vec Bool Global)). length blocks) c.in_ok-blocks.ensures.items;
  each = λ h below. absurd (omega (arith, below));
}

pub loop-at-preserved : goal.loop-at-preserved
loop-at-preserved c =
    let carrier = c.args.carrier in
    let wide = c.args.wide.now in
    let at = c.loop-at.at in
    let old = c.args.list.now in
    let before = c.loop-at.invariant in
    let inside : at < length old = subst (λ (list : List Entry). at < length list) c.slice-at-end.ensures c.loop-at-test.true in
    let blocks = c.loop-at.blocks.items in
    let block = c.in_ok-block.block in
    let pushed : c.push.new.self.items ≡ blocks ++ block ∷ [] = c.in_ok-push.ensures.items in
    let P : ℕ → Vec Bool Global → Type 0 = λ h block. HoldsAt (λ entry. AreWideBits carrier wide entry block.items) old h in
    let here : P at block = λ d. subst (λ (entry : Entry). AreWideBits carrier wide entry block.items) (before.informed.rest at d (omega arith)) (c.in_ok-block.ensures.bits d) in
    record {
      informed = one_more carrier wide at old c.loop-at.list c.inform_at.new.list inside before.informed c.in_ok-block.ensures.informed;
      size = ap (λ (blocks : List (Vec Bool Global)). length blocks) pushed ∙ length_push blocks block ∙ ap (λ n. n + 1) before.size;
      each = λ h below. subst (λ (blocks : List (Vec Bool Global)). HoldsAt (P h) blocks h) (sym pushed) (each_more P blocks at block before.size before.each here h below);
    }

pub inform_at-requires-clause-early : goal.inform_at-requires-clause-early
inform_at-requires-clause-early c d =
    let at = c.loop-at.at in
    let inside : at < length c.args.list.now = subst (λ (list : List Entry). at < length list) c.slice-at-end.ensures c.loop-at-test.true in
    subst (λ (entry : Entry). entry.start < 19200) (sym (c.loop-at.invariant.informed.rest at d (omega arith))) (c.requires.early at d inside)

pub returns-clause-informed : goal.returns-clause-informed
returns-clause-informed c =
    let wide = c.args.wide.now in
    let list = c.args.list.now in
    let first = c.loop-at-test.false in
    let last = c.loop-at.auto.at-end in
    let slice : length c.slice-at-end.result.now ≡ c.loop-at.at = omega (arith, first, last) in
    let end : c.loop-at.at ≡ length list = subst (λ (list : List Entry). c.loop-at.at ≡ length list) c.slice-at-end.ensures (sym slice) in
    all_informed c.args.carrier wide list c.loop-at.list (subst (λ n. AreInformed c.args.carrier wide n list c.loop-at.list) end c.loop-at.invariant.informed)

pub returns-clause-blocks : goal.returns-clause-blocks
returns-clause-blocks c =
    let wide = c.args.wide.now in
    let list = c.args.list.now in
    let first = c.loop-at-test.false in
    let last = c.loop-at.auto.at-end in
    let slice : length c.slice-at-end.result.now ≡ c.loop-at.at = omega (arith, first, last) in
    let end : c.loop-at.at ≡ length list = subst (λ (list : List Entry). c.loop-at.at ≡ length list) c.slice-at-end.ensures (sym slice) in
    let R : Entry → Vec Bool Global → Type 0 = λ entry block. AreWideBits c.args.carrier wide entry block.items in
    zip_of R list c.loop-at.blocks.items (c.loop-at.invariant.size ∙ end)
    (λ k d e inside. c.loop-at.invariant.each k (omega (arith, inside, end)) e d)
