use Rattle.std.proofs.Common.{arith, sym, subst}
use Rattle.cs_num.specs.Complex.{IsWithin}
use Rattle.cs_num.proofs.Complex.{conjugate-within, times-within}
use Rattle.accumulated_sss.proofs.votes.term.Goals as goal

pub returns-clause-small : goal.returns-clause-small
returns-clause-small c =
    let value = subst (IsWithin 255) (sym c.conj.ensures) (conjugate-within c.args.value 255 c.requires) in
    let product = times-within c.from.result c.conj.result 32768 255 8355840 c.from.ensures.1 value (omega arith) in
    rw c.mul.ensures product
