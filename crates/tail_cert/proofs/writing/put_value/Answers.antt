use Rattle.std.proofs.Common.{refl, arith, pos, get_or}
use Rattle.tail_cert.specs.Form.{value_bytes}
use Rattle.tail_cert.proofs.Pieces.{put_piece}
use Rattle.tail_cert.proofs.Values.{same_bits}
use Rattle.tail_cert.proofs.writing.put_value.Goals as goal

pub returns-clause-bytes : goal.returns-clause-bytes
unfolding value_bytes
returns-clause-bytes c =
    let e = same_bits (get_or c.args.values.now c.args.t (pos 0)) (c.requires.magnitudes c.args.t (pos 0) (omega (arith, c.told-values))) in
    put_piece _ _ _ _ (rw e at c.write_i16.ensures) (omega arith)

pub returns-clause-count : goal.returns-clause-count
unfolding value_bytes
returns-clause-count c = refl
