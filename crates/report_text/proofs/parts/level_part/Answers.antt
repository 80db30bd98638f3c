use Rattle.std.proofs.Common.{append_assoc, FitsSigned, w8, rules}
use Rattle.std.proofs.lemmas.Int.{to_z-of_z}
use Rattle.report_text.proofs.parts.level_part.Goals as goal

pub returns : goal.returns
returns c =
    let fits : FitsSigned w8 c.args.level = search rules in
    simp append_assoc (simp to_z-of_z at c.format.ensures.ok)
