use Rattle.std.proofs.Common.{◌≡◌, ℕ, false, List, ◌++◌, Ok, Err, arith, ap, length, length-append, length-take-le, take, drop}
use Rattle.std.proofs.lemmas.List.{take-append-le}
use Rattle.std.specs.Prelude.{Result, if◌then◌else◌}
use Rattle.std.specs.Result.{is_ok, is_err}
use Rattle.std.specs.declared.alloc.AllocError.{AllocError}
use Rattle.cs_outside.proofs.Reading.{read_then}
use Rattle.cs_outside.proofs.streams.read_to_end.Goals as goal

-- the buffer after a successful `extend`
extended : (r : Result (Unit {0}) AllocError) (new old more : List ℕ) → false ≡ is_err r → new ≡ (if is_ok r then old ++ more else old) → new ≡ old ++ more
extended (Ok done) new old more fine items = items
extended (Err e) new old more fine items = absurd (cc fine)

pub returns-then-is_err-clause-memory : goal.returns-then-is_err-clause-memory
returns-then-is_err-clause-memory g c = λ e.
    let piece = take c.in-Ok.n c.read.new.into in
    let room = length-take-le c.min-most.result c.loop-bytes.buffer (omega (arith, c.min-most.ensures, c.loop-bytes.invariant.whole)) in
    let size = length-take-le c.in-Ok.n c.read.new.into c.in-Ok.ensures.fits in
    record {
      front = c.loop-bytes.bytes.items ++ piece;
      read = read_then _ _ _ _ _ c.loop-bytes.invariant.so_far c.in-Ok.ensures.next;
      few = omega (arith, length-append c.loop-bytes.bytes.items piece, size, room, c.in-Ok.ensures.fits, c.in-Ok.ensures.same_length, c.loop-bytes.invariant.few, c.min-most.ensures, c.len.ensures, c.loop-bytes.bytes.ok);
    }

pub returns-then-len-limit-clause-too_long : goal.returns-then-len-limit-clause-too_long
returns-then-len-limit-clause-too_long g c = λ e.
    let piece = take c.in-Ok.n c.read.new.into in
    let room = length-take-le c.min-most.result c.loop-bytes.buffer (omega (arith, c.min-most.ensures, c.loop-bytes.invariant.whole)) in
    let size = length-take-le c.in-Ok.n c.read.new.into c.in-Ok.ensures.fits in
    let rest = drop c.min-most.result c.loop-bytes.buffer in
    let all = take c.in-Ok.n (c.read.new.into ++ rest) in
    let front : all ≡ piece = take-append-le c.in-Ok.n c.read.new.into rest c.in-Ok.ensures.fits in
    let joined = extended c.extend_from_slice.result c.extend_from_slice.new.self.items c.loop-bytes.bytes.items all c.if-is_err.ensures.value c.extend_from_slice.ensures.items in
    record {
      front = c.loop-bytes.bytes.items ++ piece;
      read = read_then _ _ _ _ _ c.loop-bytes.invariant.so_far c.in-Ok.ensures.next;
      past = omega (arith, length-append c.loop-bytes.bytes.items piece, size, room, c.in-Ok.ensures.fits, c.in-Ok.ensures.same_length, c.loop-bytes.invariant.few, c.if-len-limit.true, c.len-in-Ok.ensures, c.min-most.ensures, c.len.ensures, ap length joined, ap length front, length-append c.loop-bytes.bytes.items all);
    }
