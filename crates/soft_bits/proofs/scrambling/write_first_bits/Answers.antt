use Rattle.std.proofs.Common.{◌≡◌, length, take, false, get_or, ap, ◌∙◌, arith, rules}
use Rattle.std.proofs.lemmas.List.{get_or_append_left}
use Rattle.gold.specs.Gold.{gold_bits}
use Rattle.gold.proofs.Bits.{length-gold_bits, get_or-gold_bits}
use Rattle.soft_bits.proofs.scrambling.write_first_bits.Goals as goal

pub returns : goal.returns
returns c k inside =
    let count = c.args.count in
    let part : length (take count c.args.bits.now) ≡ count = search rules in
    let are : c.fill.new.out ≡ gold_bits c.args.c_init count = c.fill.ensures ∙ ap (gold_bits c.args.c_init) part in
    let long : length c.fill.new.out ≡ count = ap length are ∙ length-gold_bits c.args.c_init count in
    get_or_append_left c.fill.new.out _ false k (omega (arith, long, inside))
    ∙ ap (λ bits. get_or bits k false) are ∙ get_or-gold_bits c.args.c_init count k false inside
