use Rattle.std.proofs.Common.{ℕ, ◌+◌, ◌*◌, ◌<◌, arith, refl, ◌∙◌}
use Rattle.cell_grid.specs.Load.{load_point}
use Rattle.cell_grid.proofs.LoadBits.{bit_there}
use Rattle.cell_grid.proofs.grid.load_point.Goals as goal

pub returns : goal.returns
unfolding load_point
returns c load sfn port is =
    let a = c.args in
    let m : ℕ = 2 * (72 * a.symbol + a.k) in
    let inside : m + 1 < 2016 = omega (arith, c.requires.symbol, c.requires.k) in
    let first = bit_there load port sfn a.subframe m (2016 * a.subframe + m) a.bits.now is c.requires.subframe (omega (arith, inside)) refl in
    let second = bit_there load port sfn a.subframe (m + 1) (2016 * a.subframe + m + 1) a.bits.now is c.requires.subframe inside (omega arith) in
    c.point.ensures.point ∙ rw (first, second) refl
