use Rattle.std.proofs.Common.{length-set, ◌∙◌, sym, arith, length, ◌<◌}
use Rattle.tailbite.proofs.Keys.{pass_bound, pass_key, least_or_far, bounds_with, greater_bound}
use Rattle.tailbite.proofs.search.raise_bounds.Goals as goal
use Rattle.tailbite.proofs.search.raise_bounds.Goals.{then-bounds-start+then-end-start, then-bounds-start+else-end-start, else-bounds-start}

pub loop-start-preserved : goal.loop-start-preserved
loop-start-preserved c =
    let start = c.loop-start.start in
    let inside = c.loop-start-test.true in
    let known = c.loop-start.invariant in
    let place : start < length c.loop-start.bounds = omega (arith, known.0, inside) in
    let (ends, free, passed) = c.requires.pass in
    elim c.if-bounds-start.branch [
      | then-bounds-start+then-end-start w ↦ (
        rw w.bounds-is (simp length-set known.0),
        rw (w.bounds-is, w.max.ensures)
            (bounds_with _ _ _ _ place known.1
            (greater_bound _ _ _ _ (known.1.bound start inside)
            (rw (w.key_of-key.ensures, w.walk-word.ensures.word)
            (pass_bound _ _ _ _ _ c.requires.costs passed c.requires.low c.requires.high inside (free start inside))))),
        rw (w.least-is, w.min-least.ensures)
            (least_or_far _ _ _ known.2 (λ small.
            rw (w.key_of-key.ensures, w.walk-word.ensures.word)
            (pass_key _ _ _ _ _ c.requires.costs passed c.requires.low inside (free start inside)
            (sym w.walk-word.ensures.end ∙ w.if-end-start.true)))),
      )
      | then-bounds-start+else-end-start w ↦ (
        rw w.bounds-is (simp length-set known.0),
        rw (w.bounds-is, w.max.ensures)
            (bounds_with _ _ _ _ place known.1
            (greater_bound _ _ _ _ (known.1.bound start inside)
            (rw (w.key_of-key.ensures, w.walk-word.ensures.word)
            (pass_bound _ _ _ _ _ c.requires.costs passed c.requires.low c.requires.high inside (free start inside))))),
        rw w.least-is known.2,
      )
      | else-bounds-start w ↦ (rw w.bounds-is known.0, rw w.bounds-is known.1, rw w.least-is known.2)
    ]
