use Rattle.std.proofs.Common.{arith}
use Rattle.std.proofs.lemmas.List.{length-take-le}
use Rattle.turbo_code.proofs.TableFacts.{is_small}
use Rattle.turbo_dec.proofs.iterations.bits_of.Goals as goal

pub shared_ref_as_front-result : goal.shared_ref_as_front-result
shared_ref_as_front-result c = let high = (is_small c.args.row.now c.requires.row).high in omega (arith, high)

pub returns-clause-low : goal.returns-clause-low
returns-clause-low c =
    let small = is_small c.args.row.now c.requires.row in
    let size = length-take-le c.args.row.now.k c.args.word.now (let high = small.high in omega (arith, high, c.told-word)) in
    omega (arith, size, small.low)
