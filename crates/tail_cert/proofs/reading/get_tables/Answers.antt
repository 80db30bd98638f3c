use Rattle.std.proofs.Common.{◌≡◌, sym, ◌∙◌, length, arith}
use Rattle.tail_cert.proofs.Shown.{all_read, read_none, read_not, read_there, room_for}
use Rattle.tail_cert.proofs.reading.get_tables.Goals as goal
use Rattle.tail_cert.proofs.reading.get_tables.Goals.{then-has, else-has}

pub loop-s-init : goal.loop-s-init
loop-s-init c = read_none _ _ _ _ c.requires.tables

pub get_table-requires : goal.get_table-requires
get_table-requires c =
    room_for c.args.set.now c.loop-s.tables _ c.args.at c.loop-s.place (length c.args.bytes.now) c.loop-s-test.true (sym c.has.ensures ∙ c.if-has.true) (omega (arith, c.requires.size)) c.loop-s.invariant.at

pub overflow_add-place : goal.overflow_add-place
overflow_add-place c =
    let room = room_for c.args.set.now c.loop-s.tables _ c.args.at c.loop-s.place (length c.args.bytes.now) c.loop-s-test.true (sym c.has.ensures ∙ c.if-has.true) (omega (arith, c.requires.size)) c.loop-s.invariant.at in
    omega (arith, room)

pub loop-s-preserved : goal.loop-s-preserved
loop-s-preserved c = elim c.if-has.branch [
  | then-has w ↦ rw (w.tables-is, w.place-is) (read_there _ _ _ _ _ _ _ c.loop-s.invariant c.loop-s-test.true (sym c.has.ensures ∙ w.if-has.true) w.get_table.ensures.table w.get_table.ensures.bytes)
  | else-has w ↦ rw (w.tables-is, w.place-is) (read_not _ _ _ _ _ _ c.loop-s.invariant (sym c.has.ensures ∙ w.if-has.false))
]

pub returns-clause-bytes : goal.returns-clause-bytes
returns-clause-bytes c =
    let all : c.loop-s.s ≡ 64 = omega (arith, c.loop-s-test.false) in
    all_read _ _ _ _ _ (rw all at c.loop-s.invariant) c.requires.size
