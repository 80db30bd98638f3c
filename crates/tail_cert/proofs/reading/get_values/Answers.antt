use Rattle.std.proofs.Common.{◌≡◌, ◌+◌, ◌*◌, arith}
use Rattle.tail_cert.proofs.Elements.{read_none, read_more, read_all}
use Rattle.tail_cert.proofs.reading.get_values.Goals as goal

pub loop-k-init : goal.loop-k-init
loop-k-init c = read_none _ _ _ _ _ _ _ c.told-values

pub loop-k-preserved : goal.loop-k-preserved
loop-k-preserved c = read_more _ _ _ _ _ _ _ _ _ c.loop-k.invariant (omega arith) c.get_place.ensures.bytes c.get_place.ensures.triple

pub returns-clause-bytes : goal.returns-clause-bytes
returns-clause-bytes c = (read_all _ _ _ _ _ _ _ _ c.loop-k.invariant (omega arith) (omega arith)).0

pub returns-clause-places : goal.returns-clause-places
returns-clause-places c = (read_all _ _ _ _ _ _ _ _ c.loop-k.invariant (omega arith) (omega arith)).1

pub get_place-requires-clause-magnitudes : goal.get_place-requires-clause-magnitudes
get_place-requires-clause-magnitudes c = λ t below.
    let e : 4 + 6 * c.loop-k.k + 2 * t ≡ 4 + 2 * (3 * c.loop-k.k + t) = omega arith in
    rw e (c.requires.magnitudes (3 * c.loop-k.k + t) (omega arith))
