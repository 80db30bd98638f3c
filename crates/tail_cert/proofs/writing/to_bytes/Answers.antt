use Rattle.std.proofs.Common.{refl, arith}
use Rattle.tail_cert.specs.Form.{bytes_of}
use Rattle.tail_cert.proofs.Pieces.{seven_pieces}
use Rattle.tail_cert.proofs.Shown.{as_many, stored_whole}
use Rattle.tail_cert.proofs.writing.to_bytes.Goals as goal

pub put_tables-requires-clause-room : goal.put_tables-requires-clause-room
put_tables-requires-clause-room c =
    let many = as_many c.certificate.inside.set c.certificate.inside.tables.items in
    let room = rw (← c.certificate.view_is) at c.requires in
    omega (arith, room, many)

pub returns-clause-whole : goal.returns-clause-whole
returns-clause-whole c = rw (← c.certificate.view_is) (stored_whole _ _ _ c.certificate.invariant.0 refl)

pub returns-clause-bytes : goal.returns-clause-bytes
unfolding bytes_of
returns-clause-bytes c =
    let items = c.certificate.inside.tables.items in
    let many = as_many c.certificate.inside.set items in
    let room = rw (← c.certificate.view_is) at c.requires in
    let rest = rw c.deref.ensures.value at c.put_tables.ensures.count in
    rw (← c.certificate.view_is)
    (rw (c.put_tables.ensures.bytes, c.put_set.ensures.bytes items, c.put_table.ensures.bytes, c.put_entry.ensures.bytes, c.put_word.ensures.bytes, c.put_values.ensures.bytes, c.put_mark.ensures, c.deref.ensures.value)
    (seven_pieces _ _ _ _ _ _ _ c.args.out.now 4 244 249 253 10493 10501 refl (omega (arith, c.put_values.ensures.count)) (omega (arith, c.put_word.ensures.count)) (omega (arith, c.put_entry.ensures.count))
    (omega (arith, c.put_table.ensures.count)) (omega (arith, c.put_set.ensures.count items)) (omega (arith, rest, room, many))))
