use Rattle.std.proofs.Common.{◌≡◌, sym, ◌∙◌, length, arith}
use Rattle.tail_cert.proofs.Pieces.{maybes_none, maybe_none, maybe_some}
use Rattle.tail_cert.proofs.Shown.{room_for, shown_bytes, shown_there, shown_not_there}
use Rattle.tail_cert.proofs.writing.put_tables.Goals as goal
use Rattle.tail_cert.proofs.writing.put_tables.Goals.{then-has, else-has}

pub loop-s-init : goal.loop-s-init
loop-s-init c = maybes_none _ _ _

pub put_table-requires : goal.put_table-requires
put_table-requires c =
    let room = room_for c.args.set.now c.args.tables.now _ c.args.at c.loop-s.place (length c.args.out.now) c.loop-s-test.true (sym c.has.ensures ∙ c.if-has.true) c.requires.room c.loop-s.invariant.at in
    omega (arith, room, c.loop-s.invariant.same)

pub overflow_add-place : goal.overflow_add-place
overflow_add-place c =
    let room = room_for c.args.set.now c.args.tables.now _ c.args.at c.loop-s.place (length c.args.out.now) c.loop-s-test.true (sym c.has.ensures ∙ c.if-has.true) c.requires.room c.loop-s.invariant.at in
    omega (arith, room)

pub loop-s-preserved : goal.loop-s-preserved
loop-s-preserved c = elim c.if-has.branch [
  | then-has w ↦
      let there = sym c.has.ensures ∙ w.if-has.true in
      let room = room_for c.args.set.now c.args.tables.now _ c.args.at c.loop-s.place (length c.args.out.now) c.loop-s-test.true there c.requires.room c.loop-s.invariant.at in
      rw (w.out-is, w.place-is) (maybe_some _ _ _ _ _ _ _ _ c.loop-s.invariant (shown_there c.args.set.now c.args.tables.now c.loop-s.s there) w.put_table.ensures.count room w.put_table.ensures.bytes)
  | else-has w ↦ rw (w.out-is, w.place-is) (maybe_none _ _ _ _ _ _ c.loop-s.invariant (shown_not_there c.args.set.now c.args.tables.now c.loop-s.s (sym c.has.ensures ∙ w.if-has.false)))
]

pub returns-clause-bytes : goal.returns-clause-bytes
returns-clause-bytes c =
    let all : c.loop-s.s ≡ 64 = omega (arith, c.loop-s-test.false) in
    (shown_bytes _ _ _ _ _ _ (rw all at c.loop-s.invariant)).0

pub returns-clause-count : goal.returns-clause-count
returns-clause-count c =
    let all : c.loop-s.s ≡ 64 = omega (arith, c.loop-s-test.false) in
    (shown_bytes _ _ _ _ _ _ (rw all at c.loop-s.invariant)).1
