use Rattle.std.proofs.Common.{◌≡◌, arith, sym, subst, rules, length}
use Rattle.std.proofs.lemmas.List.Elements.{All-get_or}
use Rattle.cs_num.specs.Complex.{IsWithin}
use Rattle.fold128.specs.Folding.{AreWithin, empty_quartet}
use Rattle.fold128.proofs.FoldSizes.{taken-small, mirror-small}
use Rattle.fold128.proofs.spectrum.mirror_of.Goals as goal

pub returns-clause-small : goal.returns-clause-small
returns-clause-small c =
    let long : length c.args.folded.now ≡ 32 = search rules in
    let here = subst (IsWithin 131072) (sym c.of_residue-here.ensures)
    (taken-small _ c.args.residue (All-get_or (AreWithin 131072) c.args.folded.now c.args.m empty_quartet (omega arith) c.requires.small) c.requires.residue) in
    rw (c.add-real.ensures, c.times_minus_j.ensures, c.sub-difference.ensures) (mirror-small c.of_residue-here.result c.opposite_of-opposite.result here c.opposite_of-opposite.ensures.small)
