use Rattle.std.proofs.Common.{◌≡◌, suc, ◌-◌, arith, rules}
use Rattle.std.proofs.lemmas.Int.{to_z-of_z}
use mir.Val.{SFits}
use mir.Syntax.{w32}
use Rattle.turbo_dec.proofs.Small.{all_small}
use Rattle.turbo_dec.proofs.Back.{back_all, back_step, forward_row_of}
use Rattle.turbo_dec.proofs.constituent.backward.Goals as goal

pub least_through-zeros-requires-clause-before : goal.least_through-zeros-requires-clause-before
least_through-zeros-requires-clause-before c = λ y below.
    let h = (c.requires.rows.row (c.loop-k.k - 1) (omega (arith, c.loop-k.invariant.index))).room y below in
    omega (arith, h, c.loop-k.invariant.index, c.args.streams.now.short)

pub least_through-zeros-requires-clause-after : goal.least_through-zeros-requires-clause-after
least_through-zeros-requires-clause-after c = λ y below.
    let h = c.loop-k.invariant.room y below in
    omega (arith, h, c.loop-k.invariant.index, c.args.streams.now.short)

pub least_through-ones-requires-clause-before : goal.least_through-ones-requires-clause-before
least_through-ones-requires-clause-before c = λ y below.
    let h = (c.requires.rows.row (c.loop-k.k - 1) (omega (arith, c.loop-k.invariant.index))).room y below in
    omega (arith, h, c.loop-k.invariant.index, c.args.streams.now.short)

pub least_through-ones-requires-clause-after : goal.least_through-ones-requires-clause-after
least_through-ones-requires-clause-after c = λ y below.
    let h = c.loop-k.invariant.room y below in
    omega (arith, h, c.loop-k.invariant.index, c.args.streams.now.short)

pub backward_row-row-requires : goal.backward_row-row-requires
backward_row-row-requires c = record {
  room = λ y below.
      let h = c.loop-k.invariant.room y below in
      omega (arith, h, c.loop-k.invariant.index, c.args.streams.now.short);
}

pub extrinsic_of-requires-clause-zeros : goal.extrinsic_of-requires-clause-zeros
extrinsic_of-requires-clause-zeros c =
    let h = c.least_through-zeros.ensures.bound in
    let before = (c.requires.rows.row (c.loop-k.k - 1) (omega (arith, c.loop-k.invariant.index))).room 0 (omega arith) in
    let after = c.loop-k.invariant.room 0 (omega arith) in
    omega (arith, h, before, after, c.loop-k.invariant.index, c.args.streams.now.short)

pub extrinsic_of-requires-clause-ones : goal.extrinsic_of-requires-clause-ones
extrinsic_of-requires-clause-ones c =
    let h = c.least_through-ones.ensures.bound in
    let before = (c.requires.rows.row (c.loop-k.k - 1) (omega (arith, c.loop-k.invariant.index))).room 0 (omega arith) in
    let after = c.loop-k.invariant.room 4 (omega arith) in
    omega (arith, h, before, after, c.loop-k.invariant.index, c.args.streams.now.short)

pub loop-k-preserved : goal.loop-k-preserved
loop-k-preserved c =
    let e : c.loop-k.k ≡ suc (c.loop-k.k - 1) = omega arith in
    let fits : SFits w32 c.extrinsic_of.result = search rules in
    rw (to_z-of_z w32 c.extrinsic_of.result fits)
    (back_step _ _ _ _ _ (c.loop-k.k - 1) _ _ _ _ _ (all_small _ _ _ _ c.args.streams.now.small_systematic c.args.streams.now.small_parity c.requires.small_tail c.args.streams.now.small_prior)
    c.args.streams.now.short (rw (← e) c.loop-k.invariant)
    (forward_row_of _ _ c.args.tail.now _ _ _ (c.loop-k.k - 1) c.requires.rows (omega (arith, c.loop-k.invariant.index)))
    c.soft_at-soft.ensures.sum c.soft_at-soft.ensures.parity
    c.least_through-zeros.ensures.least c.least_through-ones.ensures.least c.extrinsic_of.ensures
    c.backward_row-row.ensures.least c.backward_row-row.ensures.growth)

pub returns : goal.returns
returns c = back_all _ _ _ _ (omega (arith, c.loop-k-test.false)) c.loop-k.invariant
