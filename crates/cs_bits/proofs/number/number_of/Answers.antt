use Rattle.std.proofs.Common.{◌≡◌, ◌≤◌, take, Bool, true, false, cond, get_or, arith, refl, ap, ◌∙◌}
use Rattle.std.proofs.lemmas.List.{take_all}
use mir.Val.{bool_byte}
use Rattle.cs_bits.specs.Numbers.{number}
use Rattle.cs_bits.proofs.Numbers.{number_below, number_more, number_before}
use Rattle.cs_bits.proofs.number.number_of.Goals as goal

as_number : (b : Bool) → bool_byte b ≡ cond b 1 0
as_number true = refl
as_number false = refl

at_most_one : (b : Bool) → cond b 1 0 ≤ 1
at_most_one true = omega arith
at_most_one false = omega arith

pub loop-bit-init : goal.loop-bit-init
loop-bit-init c = refl

pub overflow_mul-number : goal.overflow_mul-number
overflow_mul-number c =
    let before = number_before c.args.bits.now c.loop-bit.bit-index c.loop-bit-test.true c.requires in
    let so_far = c.loop-bit.invariant in
    omega (arith, before, so_far)

pub overflow_add-number : goal.overflow_add-number
overflow_add-number c =
    let before = number_before c.args.bits.now c.loop-bit.bit-index c.loop-bit-test.true c.requires in
    let so_far = c.loop-bit.invariant in
    let bit = get_or c.args.bits.now c.loop-bit.bit-index false in
    let is = as_number bit in
    let one = at_most_one bit in
    omega (arith, before, so_far, is, one)

pub loop-bit-preserved : goal.loop-bit-preserved
loop-bit-preserved c =
    let so_far = c.loop-bit.invariant in
    let more = number_more c.args.bits.now c.loop-bit.bit-index c.loop-bit-test.true in
    let is = as_number (get_or c.args.bits.now c.loop-bit.bit-index false) in
    omega (arith, so_far, more, is)

pub returns-clause-bound : goal.returns-clause-bound
returns-clause-bound c =
    let whole : take c.loop-bit.bit-index c.args.bits.now ≡ c.args.bits.now = take_all c.loop-bit.bit-index c.args.bits.now c.loop-bit-test.false in
    let so_far : c.loop-bit.number ≡ number c.args.bits.now = c.loop-bit.invariant ∙ ap number whole in
    rw so_far (number_below c.args.bits.now)
