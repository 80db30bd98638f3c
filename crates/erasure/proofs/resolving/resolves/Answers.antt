use Rattle.std.proofs.Common.{arith, sym, ap, ◌∙◌}
use Rattle.cs_bits.specs.Checks.{has_check_24}
use Rattle.erasure.specs.Sets.{above_zero}
use Rattle.erasure.proofs.Agree.{after_none, after_more, iterated, filled_is, decoded_is, resolved, unresolved, never_resolved}
use Rattle.erasure.proofs.resolving.resolves.Goals as goal

pub loop-init : goal.loop-init
loop-init c = after_none c.args.row.now (above_zero c.args.counts.now) c.args.bits.now c.requires.row

pub returns-then-are_all : goal.returns-then-are_all
returns-then-are_all c =
    let row = c.args.row.now in
    let sent = above_zero c.args.counts.now in
    let now = iterated row sent c.args.bits.now c.loop.known c.first_marks-first.result c.second_marks-second.result c.settled_of-settled.result c.loop.counter c.requires.row c.loop.invariant
    c.first_marks-first.ensures.found c.second_marks-second.ensures.found c.settled_of-settled.ensures.marks in
    let full = sym (filled_is row sent c.loop.counter c.second_marks-second.result c.settled_of-settled.result _ now c.front_of.ensures.count c.front_of.ensures.marks) ∙ sym c.are_all.ensures ∙ c.if-are_all.true in
    resolved row sent c.args.bits.now c.loop.known c.loop.counter (omega (arith, c.loop-test.true)) c.loop.invariant full

pub returns-then-has_check_24 : goal.returns-then-has_check_24
returns-then-has_check_24 c =
    let row = c.args.row.now in
    let sent = above_zero c.args.counts.now in
    let now = iterated row sent c.args.bits.now c.loop.known c.first_marks-first.result c.second_marks-second.result c.settled_of-settled.result c.loop.counter c.requires.row c.loop.invariant
    c.first_marks-first.ensures.found c.second_marks-second.ensures.found c.settled_of-settled.ensures.marks in
    let unfilled = sym (filled_is row sent c.loop.counter c.second_marks-second.result c.settled_of-settled.result _ now c.front_of.ensures.count c.front_of.ensures.marks) ∙ sym c.are_all.ensures ∙ c.if-are_all.false in
    let decoded = decoded_is row sent c.args.bits.now c.loop.counter c.second_marks-second.result c.settled_of-settled.result c.word_of-word.result _ c.requires.row c.requires.count now
    c.word_of-word.ensures.size c.word_of-word.ensures.word c.front_of-in-loop.ensures.marks in
    unresolved row sent c.args.bits.now c.loop.known c.loop.counter c.loop.invariant unfilled (ap has_check_24 (sym decoded) ∙ sym c.has_check_24.ensures ∙ c.if-has_check_24.true)

pub loop-preserved : goal.loop-preserved
loop-preserved c =
    let row = c.args.row.now in
    let sent = above_zero c.args.counts.now in
    let now = iterated row sent c.args.bits.now c.loop.known c.first_marks-first.result c.second_marks-second.result c.settled_of-settled.result c.loop.counter c.requires.row c.loop.invariant
    c.first_marks-first.ensures.found c.second_marks-second.ensures.found c.settled_of-settled.ensures.marks in
    let unfilled = sym (filled_is row sent c.loop.counter c.second_marks-second.result c.settled_of-settled.result _ now c.front_of.ensures.count c.front_of.ensures.marks) ∙ sym c.are_all.ensures ∙ c.if-are_all.false in
    let decoded = decoded_is row sent c.args.bits.now c.loop.counter c.second_marks-second.result c.settled_of-settled.result c.word_of-word.result _ c.requires.row c.requires.count now
    c.word_of-word.ensures.size c.word_of-word.ensures.word c.front_of-in-loop.ensures.marks in
    after_more row sent c.args.bits.now c.loop.known c.second_marks-second.result c.settled_of-settled.result c.loop.counter c.loop.invariant now unfilled
    (ap has_check_24 (sym decoded) ∙ sym c.has_check_24.ensures ∙ c.if-has_check_24.false)

pub returns : goal.returns
returns c = never_resolved c.args.row.now (above_zero c.args.counts.now) c.args.bits.now c.loop.known c.loop.counter (omega (arith, c.loop-test.false)) c.loop.invariant
