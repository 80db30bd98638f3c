use Rattle.std.proofs.Common.{Result, IfOk, sym, subst}
use Rattle.lte_types.specs.declared.sib1.Sib1.{Sib1}
use Rattle.lte_types.specs.declared.sib1_reason.Sib1Reason.{Sib1Reason}
use Rattle.lte_types.specs.Ranges.{IsValid}
use Rattle.wide_list.proofs.Reading.{system_is_valid}
use Rattle.wide_list.proofs.system.system_in.Goals as goal

pub returns-clause-valid : goal.returns-clause-valid
returns-clause-valid c =
    let found = c.args.found.now in
    subst (λ (answer : Result Sib1 Sib1Reason). IfOk answer IsValid) (sym c.fields_of.ensures)
    (system_is_valid c.args.wide.now found.cell found.start found.sfn _ c.in_ok-system_block_in.ensures.system)
