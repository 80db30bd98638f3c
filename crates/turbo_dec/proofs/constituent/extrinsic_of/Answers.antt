use Rattle.std.proofs.Common.{◌≡◌, rules, arith, pos, negsuc, ◌-ℤ◌}
use Rattle.std.specs.Int.{int_min, int_max}
use Rattle.std.proofs.lemmas.Int.{to_z-of_z, ints, clamps}
use mir.Val.{SFits}
use mir.Syntax.{w32}
use Rattle.turbo_dec.proofs.constituent.extrinsic_of.Goals as goal

pub returns : goal.returns
returns c =
    let fits : SFits w32 c.clamp.result = search rules in
    let e = c.clamp.ensures.value in
    let is : c.clamp.result ≡ int_max (negsuc 2046) (int_min ((pos c.args.ones -ℤ pos c.args.zeros) -ℤ c.args.soft.now.sum) (pos 2047))
    = omega (arith, ints, clamps, e) in
    rw (to_z-of_z w32 c.clamp.result fits) is
