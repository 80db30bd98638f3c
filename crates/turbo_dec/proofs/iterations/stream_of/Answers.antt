use Rattle.std.proofs.Common.{arith, refl, pos}
use Rattle.turbo_code.proofs.TableFacts.{is_small}
use Rattle.finite.proofs.Lists.{front_is}
use Rattle.turbo_dec.specs.Decoder.{at}
use Rattle.turbo_dec.proofs.iterations.stream_of.Goals as goal

pub shared_ref_as_front-result : goal.shared_ref_as_front-result
shared_ref_as_front-result c = let high = (is_small c.args.row.now c.requires.row).high in omega (arith, high)

pub returns-clause-values : goal.returns-clause-values
returns-clause-values c =
    let high = (is_small c.args.row.now c.requires.row).high in
    front_is (pos 0) c.args.row.now.k (at c.args.stream.now) c.args.stream.now (let size = c.told-stream in omega (arith, high, size)) (λ j below. refl)
