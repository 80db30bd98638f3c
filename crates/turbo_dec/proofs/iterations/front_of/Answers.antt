use Rattle.std.proofs.Common.{arith}
use Rattle.turbo_code.proofs.TableFacts.{is_small}
use Rattle.turbo_dec.proofs.iterations.front_of.Goals as goal

pub shared_ref_as_front-result : goal.shared_ref_as_front-result
shared_ref_as_front-result c = let high = (is_small c.args.row.now c.requires.row).high in omega (arith, high)
