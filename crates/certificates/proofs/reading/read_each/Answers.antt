use Rattle.std.proofs.Common.{◌≡◌, ◌+◌, ◌≤◌, arith, refl, length, take, length-take, sym, ◌∙◌, inl}
use Rattle.tail_cert.proofs.Whole.{count_most}
use Rattle.cs_outside.proofs.Faults.{rose_later}
use Rattle.certificates.proofs.Fronts.{aim_least, aim_head, read_fits}
use Rattle.certificates.proofs.Progress.{part_on, fault_on, early_on, broken_or_past, past_on, judged_to, sound_but_last, whole_but_last}
use Rattle.certificates.proofs.reading.read_each.Goals as goal

pub read-requires-clause-room : goal.read-requires-clause-room
read-requires-clause-room g c =
    let part = take c.loop-answers.filled c.loop-answers.part in
    let aim = aim_least part c.loop-answers.aim c.loop-answers.invariant.aims in
    omega (arith, aim, count_most part, c.part_end.ensures, c.loop-answers.invariant.room)

pub returns-in-Err-clause-err : goal.returns-in-Err-clause-err
returns-in-Err-clause-err g c =
    let size = length-take c.loop-answers.filled c.loop-answers.part in
    let aim = aim_least _ _ c.loop-answers.invariant.aims in
    fault_on _ _ _ _ _ _ c.loop-answers.invariant.so_far c.in-Err.ensures.unchanged (rose_later _ _ _ c.loop-answers.invariant.later c.in-Err.ensures.cause)
    (omega (arith, size, aim, c.loop-answers.invariant.part)) (omega (arith, size, c.loop-answers.invariant.few))

pub returns-in-Ok-eq0-2-clause-err : goal.returns-in-Ok-eq0-2-clause-err
returns-in-Ok-eq0-2-clause-err g c =
    let part = take c.loop-answers.filled c.loop-answers.part in
    let size = length-take c.loop-answers.filled c.loop-answers.part in
    let aim = aim_least part c.loop-answers.aim c.loop-answers.invariant.aims in
    let most = count_most part in
    early_on _ _ _ _ _ _ _ _ _ c.loop-answers.invariant.so_far c.in-Ok-eq0.ensures.read c.in-Ok-eq0.field-0-test
    (omega (arith, size, aim, most, c.if-filled-eq0.false, c.loop-answers.invariant.part, c.loop-answers.invariant.room))
    (omega (arith, size, aim, c.loop-answers.invariant.part))
    (omega (arith, size, aim, most, c.loop-answers.invariant.part, c.loop-answers.invariant.room)) c.loop-answers.invariant.few

pub judge-requires-clause-fits : goal.judge-requires-clause-fits
judge-requires-clause-fits g c =
    let size = length-take c.loop-answers.filled c.loop-answers.part in
    rw c.front.ensures
    (read_fits _ _ c.loop-answers.aim c.in-Ok.n _ _ c.loop-answers.invariant.aims c.in-Ok.ensures.read
    (omega (arith, size, c.in-Ok.ensures.fits, c.part_end.ensures)))

pub returns-in-Broken-clause-err : goal.returns-in-Broken-clause-err
returns-in-Broken-clause-err g c =
    let before = length-take c.loop-answers.filled c.loop-answers.part in
    let size = length-take (c.loop-answers.filled + c.in-Ok.n) c.read.new.self in
    let fits = read_fits _ _ c.loop-answers.aim c.in-Ok.n _ _ c.loop-answers.invariant.aims c.in-Ok.ensures.read
    (omega (arith, before, c.in-Ok.ensures.fits, c.part_end.ensures)) in
    broken_or_past _ _ _ _ _ _ _ _ _ _ c.loop-answers.invariant.so_far c.in-Ok.ensures.read (rw c.front.ensures at c.in-Broken.ensures)
    (omega (arith, size, c.in-Ok.ensures.same_length, c.loop-answers.invariant.most)) fits
    (omega (arith, size, c.in-Ok.ensures.fits, c.part_end.ensures, c.loop-answers.invariant.few)) c.broken_at.ensures.within c.broken_at.ensures.past

pub returns-then-done-filled-gt-MOST_BYTES-clause-err : goal.returns-then-done-filled-gt-MOST_BYTES-clause-err
returns-then-done-filled-gt-MOST_BYTES-clause-err g c =
    let before = length-take c.loop-answers.filled c.loop-answers.part in
    let size = length-take (c.loop-answers.filled + c.in-Ok.n) c.read.new.self in
    let aim = aim_least _ _ c.loop-answers.invariant.aims in
    let most = count_most (take c.loop-answers.filled c.loop-answers.part) in
    let fits = read_fits _ _ c.loop-answers.aim c.in-Ok.n _ _ c.loop-answers.invariant.aims c.in-Ok.ensures.read
    (omega (arith, before, c.in-Ok.ensures.fits, c.part_end.ensures)) in
    past_on _ _ _ _ _ _ _ _ c.loop-answers.invariant.so_far c.in-Ok.ensures.read fits (sound_but_last _ (rw c.front.ensures at c.in-Partial.ensures.2))
    (omega (arith, size, aim, most, c.in-Ok.ensures.fits, c.in-Ok.ensures.same_length, c.part_end.ensures, c.if-done-filled-gt-MOST_BYTES.true, c.loop-answers.invariant.room, c.loop-answers.invariant.few))

pub returns-then-done-filled-gt-MOST_BYTES-2-clause-err : goal.returns-then-done-filled-gt-MOST_BYTES-2-clause-err
returns-then-done-filled-gt-MOST_BYTES-2-clause-err g c =
    let before = length-take c.loop-answers.filled c.loop-answers.part in
    let size = length-take (c.loop-answers.filled + c.in-Ok.n) c.read.new.self in
    let aim = aim_least _ _ c.loop-answers.invariant.aims in
    let most = count_most (take c.loop-answers.filled c.loop-answers.part) in
    let fits = read_fits _ _ c.loop-answers.aim c.in-Ok.n _ _ c.loop-answers.invariant.aims c.in-Ok.ensures.read
    (omega (arith, before, c.in-Ok.ensures.fits, c.part_end.ensures)) in
    past_on _ _ _ _ _ _ _ _ c.loop-answers.invariant.so_far c.in-Ok.ensures.read fits (whole_but_last _ c.in-Whole.ensures.0 c.in-Whole.ensures.1.whole (sym c.front.ensures ∙ c.in-Whole.ensures.2))
    (omega (arith, size, aim, most, c.in-Ok.ensures.fits, c.in-Ok.ensures.same_length, c.part_end.ensures, c.if-done-filled-gt-MOST_BYTES-2.true, c.loop-answers.invariant.room, c.loop-answers.invariant.few))

pub loop-answers-preserved : goal.loop-answers-preserved
loop-answers-preserved g c =
    let size = length-take (c.loop-answers.filled + c.in-Ok.n) c.read.new.self in
    let aim = aim_least _ _ c.loop-answers.invariant.aims in
    let most = count_most (take c.loop-answers.filled c.loop-answers.part) in
    let count : length (take (c.loop-answers.filled + c.in-Ok.n) c.read.new.self) ≡ c.loop-answers.filled + c.in-Ok.n =
    omega (arith, size, aim, most, c.in-Ok.ensures.fits, c.in-Ok.ensures.same_length, c.part_end.ensures, c.loop-answers.invariant.room) in
    record {
      so_far = rw (c.push.ensures.items, c.if-is_err.ensures.negation)
          (judged_to _ _ _ _ _ _ _ _ _ _ c.loop-answers.invariant.so_far c.in-Ok.ensures.read (c.in-Whole.ensures.0, c.in-Whole.ensures.1, sym c.front.ensures ∙ c.in-Whole.ensures.2) count);
      later = omega arith;
      room = omega (arith, aim_head _ _ c.loop-answers.invariant.aims, c.loop-answers.invariant.room, c.in-Ok.ensures.same_length);
      most = omega (arith, c.loop-answers.invariant.most, c.in-Ok.ensures.same_length);
      part = omega arith;
      aims = inl refl;
      few = omega (arith, c.if-done-filled-gt-MOST_BYTES-2.false);
    }

pub loop-answers-preserved-in-Continue-1 : goal.loop-answers-preserved-in-Continue-1
loop-answers-preserved-in-Continue-1 g c =
    let before = c.loop-answers.invariant in
    let read = c.in-Ok.ensures in
    let filled = c.loop-answers.filled + c.in-Ok.n in
    let size = length-take filled c.read.new.self in
    let inside : filled ≤ length c.read.new.self = omega (arith, read.fits, read.same_length, c.part_end.ensures, before.room) in
    let (short, aims, sound) = (rw c.front.ensures at c.in-Partial.ensures) in
    let same : take filled c.make_room.new.self ≡ take filled c.read.new.self = c.make_room.ensures.stays filled inside in
    let most = count_most (take filled c.read.new.self) in
    let aim = aim_least _ _ aims in
    rw same (record {
      so_far = part_on _ _ _ _ _ _ _ _ before.so_far read.read sound;
      later = omega arith;
      room = c.in_ok-make_room-in-Partial.ensures.room;
      most = c.make_room.ensures.most 665861 (omega (arith, before.most, read.same_length)) (omega (arith, aim, most));
      part = omega (arith, short, size, inside);
      aims = aims;
      few = omega (arith, c.if-done-filled-gt-MOST_BYTES.false);
    })
