use Rattle.std.proofs.Common.{rules, ◌≡◌, arith, pos, to_z, w64, FitsSigned}
use Rattle.std.proofs.lemmas.Int.{to_z-of_z, to_z_pos}
use Rattle.cs_num.proofs.Signed.{multiples_fit}
use Rattle.cs_num.proofs.Cpx.scaled.Goals as goal

pub returns : goal.returns
returns c =
    let p = multiples_fit c.args.n c.args.self c.requires in
    let re : FitsSigned w64 c.args.self.re = search rules in
    let im : FitsSigned w64 c.args.self.im = search rules in
    let n : to_z w64 c.args.n ≡ pos c.args.n = to_z_pos w64 c.args.n (omega (arith, c.ranges.n.fits)) in
    let re' = p.re in
    let im' = p.im in
    rw n (simp to_z-of_z)
