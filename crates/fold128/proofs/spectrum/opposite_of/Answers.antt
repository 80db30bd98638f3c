use Rattle.std.proofs.Common.{◌≡◌, ℕ, ◌-◌, ◌<◌, List, arith, sym, subst, rules, length, slice_index_or}
use Rattle.std.specs.Prelude.{All}
use Rattle.std.proofs.lemmas.Bool.Decides.{nat_tests}
use Rattle.std.proofs.lemmas.List.Elements.{All-get_or}
use Rattle.cs_num.specs.declared.Cpx.{Cpx}
use Rattle.cs_num.specs.Complex.{IsWithin}
use Rattle.fold128.specs.declared.quartet.Quartet.{Quartet}
use Rattle.fold128.specs.Folding.{AreWithin, empty_quartet, taken}
use Rattle.fold128.proofs.FoldSizes.{taken-small, back_by-within}
use Rattle.fold128.proofs.spectrum.opposite_of.Goals as goal

seen-small : (folded : List Quartet) (r n : ℕ) (z : Cpx) → All (AreWithin 131072) folded → r < 4 → n < length folded → z ≡ taken (slice_index_or folded n empty_quartet) r → IsWithin 131072 z
seen-small folded r n z small few inside is = subst (IsWithin 131072) (sym is) (taken-small _ r (All-get_or (AreWithin 131072) folded n empty_quartet inside small) few)

pub back-requires-clause-small : goal.back-requires-clause-small
back-requires-clause-small c =
    let long : length c.args.folded.now ≡ 32 = search rules in
    seen-small c.args.folded.now c.args.residue (32 - c.args.m) c.of_residue.result c.requires.small c.requires.residue (grind (arith, nat_tests)) c.of_residue.ensures

pub returns-clause-small : goal.returns-clause-small
returns-clause-small c =
    let long : length c.args.folded.now ≡ 32 = search rules in
    subst (IsWithin 131072) (sym c.back.ensures) (back_by-within c.args.residue 131072 c.of_residue.result
    (seen-small c.args.folded.now c.args.residue (32 - c.args.m) c.of_residue.result c.requires.small c.requires.residue (grind (arith, nat_tests)) c.of_residue.ensures))
