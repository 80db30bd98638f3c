use Rattle.std.proofs.Common.{◌≡◌, ◌+◌, ◌-◌, arith, length-set, ◌∙◌, refl}
use Rattle.tailbite.proofs.Back.{pass_end, pass_step, pass_start}
use Rattle.tailbite.proofs.passes.pass.Goals as goal

pub loop-i-init : goal.loop-i-init
loop-i-init c = (simp length-set refl, pass_end _ _ _ c.requires.rows c.requires.ends)

pub write_earlier-requires-clause-inside : goal.write_earlier-requires-clause-inside
write_earlier-requires-clause-inside c =
    let place = c.loop-i.invariant.1.place in
    let count = c.loop-i.invariant.1.count in
    omega (arith, place, count, c.loop-i-test.true)

pub write_earlier-requires-clause-small : goal.write_earlier-requires-clause-small
write_earlier-requires-clause-small c =
    let place = c.loop-i.invariant.1.place in
    (c.requires.costs.place (c.loop-i.i - 1) (omega (arith, place, c.loop-i-test.true))).small

pub write_earlier-requires-clause-room : goal.write_earlier-requires-clause-room
write_earlier-requires-clause-room c x below =
    let place = c.loop-i.invariant.1.place in
    let room = c.loop-i.invariant.1.room (c.loop-i.i - 1 + 1) x (omega (arith, c.loop-i-test.true)) (omega (arith, place, c.loop-i-test.true)) below in
    omega (arith, room, c.requires.places)

pub loop-i-preserved : goal.loop-i-preserved
loop-i-preserved c =
    let place = c.loop-i.invariant.1.place in
    let next : c.loop-i.i ≡ c.loop-i.i - 1 + 1 = omega (arith, c.loop-i-test.true) in (
      c.write_earlier.ensures.count ∙ c.loop-i.invariant.0,
      pass_step _ _ _ _ _ _ _ c.loop-i.invariant.1 next (c.requires.costs.place (c.loop-i.i - 1) (omega (arith, place, c.loop-i-test.true)))
          c.write_earlier.ensures.least c.write_earlier.ensures.growth c.write_earlier.ensures.others c.write_earlier.ensures.count,
    )

pub returns-clause-pass : goal.returns-clause-pass
returns-clause-pass c = pass_start _ _ _ _ c.requires.places c.loop-i.invariant.1 (omega arith)
