use Rattle.std.proofs.Common.{[], refl, arith}
use Rattle.std.proofs.lemmas.List.{ext_get_or}
use Rattle.pbch.proofs.word_sums.WordSums.new.Goals as goal

pub loop-k-init : goal.loop-k-init
loop-k-init c = record { whole = refl; each = λ j below. absurd (omega (arith, below)) }

pub returns : goal.returns
returns c =
    let whole = c.loop-k.invariant.whole in
    let last = c.loop-k-test.false in
    ext_get_or [] c.loop-k.kept c.args.rows.now (omega (arith, whole, c.told-rows)) (λ j below. c.loop-k.invariant.each j (omega (arith, below, whole, last)))
