use Rattle.std.proofs.Common.{◌≡◌, append_assoc, FitsSigned, w16, rules, subst}
use Rattle.std.proofs.lemmas.Int.{to_z-of_z}
use Rattle.std.specs.Prelude.{IfOk, string_bytes}
use Rattle.cs_num.specs.declared.Cpx.{Cpx}
use Rattle.cs_num.proofs.Complex.{pair}
use Rattle.report_text.specs.Cancelled.{gain_part}
use Rattle.report_text.proofs.cancelled.gain_part.Goals as goal

pub returns : goal.returns
returns c =
    let re : FitsSigned w16 c.re-re.result = search rules in
    let im : FitsSigned w16 c.im-im.result = search rules in
    subst (λ (z : Cpx). IfOk c.format.result (λ part. string_bytes part ≡ gain_part z)) (pair c.re-re.ensures c.im-im.ensures)
    (simp append_assoc (simp to_z-of_z at c.format.ensures.ok))
