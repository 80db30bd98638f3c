use Rattle.std.proofs.Common.{◌≡◌, ◌≤◌, arith}
use Rattle.std.specs.Prelude.{nat_abs}
use Rattle.std.specs.Int.{w32, cast_unsigned, cast_signed}
use Rattle.std.proofs.lemmas.Int.{to_z-of_z}
use Rattle.tail_cert.proofs.Values.{fits_32}
use Rattle.tail_cert.specs.Form.{place_bytes}
use Rattle.tail_cert.proofs.Elements.{read_none, read_more, read_all}
use Rattle.tail_cert.proofs.reading.get_place.Goals as goal

pub loop-t-init : goal.loop-t-init
loop-t-init c = read_none _ _ _ _ _ _ _ c.told-values

pub loop-t-preserved : goal.loop-t-preserved
loop-t-preserved c =
    let small : nat_abs c.get_value.result ≤ 2032 = rw c.get_value.ensures.value (c.requires.magnitudes c.loop-t.t c.loop-t-test.true) in
    let e : cast_signed w32 (cast_unsigned w32 c.get_value.result) ≡ c.get_value.result = to_z-of_z w32 c.get_value.result (fits_32 c.get_value.result small) in
    rw e (read_more _ _ _ _ _ _ _ _ _ c.loop-t.invariant (omega arith) c.get_value.ensures.bytes small)

pub returns-clause-bytes : goal.returns-clause-bytes
unfolding place_bytes
returns-clause-bytes c = (read_all _ _ _ _ _ _ _ _ c.loop-t.invariant (omega arith) (omega arith)).0

pub returns-clause-triple : goal.returns-clause-triple
returns-clause-triple c = (read_all _ _ _ _ _ _ _ _ c.loop-t.invariant (omega arith) (omega arith)).1
