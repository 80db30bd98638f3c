use Rattle.std.proofs.Common.{◌≡◌, ◌+ℤ◌, arith, refl}
use mir.Val.{to_z, of_z}
use mir.Syntax.{w32}
use Rattle.std.proofs.lemmas.Int.{ints}
use Rattle.turbo_dec.proofs.iterations.is_one.Goals as goal

pub returns : goal.returns
returns c =
    let s = c.args.value.now in
    let e = c.args.first.now in
    let e' = c.args.second.now in
    let known : to_z w32 (of_z w32 (to_z w32 (of_z w32 (to_z w32 (of_z w32 s) +ℤ to_z w32 (of_z w32 e))) +ℤ to_z w32 (of_z w32 e'))) ≡ s +ℤ e +ℤ e'
    = omega (arith, ints, c.requires.value, c.requires.first, c.requires.second) in
    rw known refl
