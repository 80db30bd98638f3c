use Rattle.std.proofs.Common.{◌≡◌, ◌+◌, ◌*◌, ◌/◌, length, ap, ◌∙◌, arith}
use Rattle.std.specs.List.{flat_map}
use Rattle.finite.specs.Lists.{values_below}
use Rattle.report_parts.specs.Words.{nibble, hex_digit, hex_word}
use Rattle.report_parts.proofs.Hex.{hex_more}
use Rattle.report_parts.proofs.words.hex_word.Goals as goal

pub loop-i-preserved : goal.loop-i-preserved
loop-i-preserved c =
    let before = c.loop-i.invariant in
    let one = c.nibble.ensures in
    let digit = c.hex_digit.ensures in
    let pushed = c.in_ok-push_str.ensures.bytes in
    let more = hex_more (nibble c.args.bits.now) c.loop-i.i in
    cc

pub returns : goal.returns
unfolding hex_word
returns c =
    let last : c.loop-i.i ≡ 2 * ((length c.args.bits.now + 7) / 8) = omega arith in
    c.loop-i.invariant ∙ ap (λ n. flat_map hex_digit (values_below n (nibble c.args.bits.now))) last
