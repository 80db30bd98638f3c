use Rattle.std.proofs.Common.{◌<◌, length, length-set, arith}
use Rattle.tailbite.specs.Keys.{AreBounds}
use Rattle.std.proofs.Math.Nat.{min-le_left, min-le_right}
use Rattle.trellis.proofs.Rows.{fewer_below}
use Rattle.tailbite.proofs.Keys.{cost_bound, bounds_with, least_or_far, no_bound_below}
use Rattle.tailbite.proofs.search.least_key.Goals as goal

pub raise_bounds-least-requires-clause-pass : goal.raise_bounds-least-requires-clause-pass
raise_bounds-least-requires-clause-pass c = (_, c.free_ends.ensures, c.pass.ensures.pass)

pub raise_bounds-least-requires-clause-bounds : goal.raise_bounds-least-requires-clause-bounds
raise_bounds-least-requires-clause-bounds c =
    let all : AreBounds c.args.values.now c.fill_bounds.new.bounds = record {
      bound = λ s below.
          rw (c.fill_bounds.ensures s below)
          (cost_bound _ _ s _ c.requires.low below (c.reach.ensures s below));
    } in
    bounds_with _ _ _ _ (omega (arith, c.fill_bounds.array_long, c.state_of_least-start.ensures.state)) all c.key_from-least.ensures.bound

pub loop-bounds-preserved : goal.loop-bounds-preserved
loop-bounds-preserved c = record {
  count = simp length-set c.loop-bounds.invariant.count;
  bounds = bounds_with _ _ _ _ (omega (arith, c.loop-bounds.invariant.count, c.loop-bounds.invariant.state)) c.loop-bounds.invariant.bounds c.key_from-key.ensures.bound;
  reached = rw c.min-least.ensures (least_or_far _ _ _ c.loop-bounds.invariant.reached c.key_from-key.ensures.reached);
  state = c.state_of_least-start-in-loop-bounds.ensures.state;
  least = c.state_of_least-start-in-loop-bounds.ensures.least;
}

pub loop-bounds-smaller : goal.loop-bounds-smaller
loop-bounds-smaller c =
    let inside : c.loop-bounds.start < length c.loop-bounds.bounds = omega (arith, c.loop-bounds.invariant.count, c.loop-bounds.invariant.state) in
    let no_more = min-le_left c.loop-bounds.least c.key_from-key.result in
    let now = min-le_right c.loop-bounds.least c.key_from-key.result in
    rw c.min-least.ensures (fewer_below _ _ _ _ _ inside c.loop-bounds-test.true no_more now)

pub returns : goal.returns
returns c =
    no_bound_below _ _ _ _ c.requires.high c.requires.magnitudes c.loop-bounds.invariant.bounds c.loop-bounds.invariant.least c.loop-bounds-test.false
    c.loop-bounds.invariant.reached
