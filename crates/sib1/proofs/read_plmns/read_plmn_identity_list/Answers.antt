use Rattle.std.proofs.Common.{◌≡◌, ◌-◌, ◌+◌, ◌++◌, ◌∷◌, [], length, sym, ap, ◌∙◌, arith}
use Rattle.std.proofs.lemmas.List.{length-append}
use Rattle.uper.specs.Reading.{reading}
use Rattle.uper.proofs.Reading.{reads_bind, fails_bind}
use Rattle.uper.specs.Grammar.{times}
use Rattle.sib1.specs.Layout.{plmn_identity_info, plmn_identity_list}
use Rattle.uper.proofs.Steps.{exit, with_front, after_first, loop_more, loop_err, loop_done, pushed}
use Rattle.sib1.proofs.read_plmns.read_plmn_identity_list.Goals as goal

pub returns-in_err-further : goal.returns-in_err-further
unfolding plmn_identity_list
returns-in_err-further c = exit _ _ _ _ c.in_err-further.field-0.0 c.from_residual.ensures.1 (fails_bind _ _ _ _ c.in_err-further.ensures.reads)

pub returns-in_err-first : goal.returns-in_err-first
unfolding plmn_identity_list
returns-in_err-first c = exit _ _ _ _ c.in_err-first.field-0.0 c.from_residual-in_err-first.ensures.1 (reads_bind _ _ _ _ _ _ c.in_ok-further.ensures.reads (fails_bind _ _ _ _ c.in_err-first.ensures))

pub returns-in_err-other : goal.returns-in_err-other
returns-in_err-other c =
    exit _ _ _ _ c.in_err-other.field-0.0 c.from_residual-in_err-other.ensures.1 (loop_err (plmn_identity_info 0) c.loop.list c.in_ok-further.further c.loop.counter _ _ (reading plmn_identity_list c.args.reader.now) c.loop-test.true c.in_err-other.ensures c.loop.invariant.so_far)

pub loop-init : goal.loop-init
unfolding plmn_identity_list
loop-init c =
    let first = c.in_ok-first.first in
    let none = c.new-list.ensures in
    let start : c.push.new.self ≡ c.new-list.result ++ first ∷ [] = pushed c.new-list.result c.push.new.self first c.push.result 6 c.push.ensures.room (let size = ap length none in omega (arith, size)) c.push.ensures.items in
    let is : c.push.new.self ≡ first ∷ [] = start ∙ ap (λ list. list ++ first ∷ []) none in
    record {
      so_far =
          ap (λ front. with_front front (reading (times (c.in_ok-further.further - 0) (plmn_identity_info 0)) c.read_plmn_identity_info.new.reader)) is
          ∙ ap (λ n. with_front (first ∷ []) (reading (times n (plmn_identity_info 0)) c.read_plmn_identity_info.new.reader)) (let e : c.in_ok-further.further - 0 ≡ c.in_ok-further.further = omega arith in e)
          ∙ sym (reads_bind _ _ _ _ _ _ c.in_ok-further.ensures.reads (reads_bind _ _ _ _ _ _ c.in_ok-first.ensures (after_first c.in_ok-further.further (plmn_identity_info 0) first c.read_plmn_identity_info.new.reader)));
      size = ap length is;
    }

pub loop-preserved : goal.loop-preserved
loop-preserved c =
    let below = c.loop-test.true in
    let few = c.in_ok-further.ensures.range.1 in
    let size = c.loop.invariant.size in
    let other = c.in_ok-other.other in
    let is : c.push-in-loop.new.self ≡ c.loop.list ++ other ∷ [] = pushed c.loop.list c.push-in-loop.new.self other c.push-in-loop.result 6 c.push-in-loop.ensures.room (omega (arith, below, few, size)) c.push-in-loop.ensures.items in
    let longer = ap length is ∙ length-append c.loop.list (other ∷ []) in
    record {
      so_far =
          ap (λ front. with_front front (reading (times (c.in_ok-further.further - (c.loop.counter + 1)) (plmn_identity_info 0)) c.read_plmn_identity_info-in-loop.new.reader)) is
          ∙ loop_more (plmn_identity_info 0) c.loop.list c.in_ok-further.further c.loop.counter _ _ other (reading plmn_identity_list c.args.reader.now) below c.in_ok-other.ensures c.loop.invariant.so_far;
      size = omega (arith, longer, size);
    }

pub returns : goal.returns
returns c = loop_done (plmn_identity_info 0) c.loop.list c.in_ok-further.further c.loop.counter c.loop.reader (reading plmn_identity_list c.args.reader.now) c.loop-test.false c.loop.invariant.so_far
