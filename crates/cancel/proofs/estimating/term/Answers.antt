use Rattle.std.proofs.Common.{arith, sym, subst}
use Rattle.cs_num.specs.Complex.{IsWithin}
use Rattle.cs_num.proofs.Complex.{within_more, conjugate-within, times-within}
use Rattle.cancel.proofs.estimating.term.Goals as goal

pub returns-clause-small : goal.returns-clause-small
returns-clause-small c =
    let signal = subst (IsWithin 1415) (sym c.conj.ensures) (conjugate-within c.args.signal 1415 c.requires) in
    let product = times-within c.from.result c.conj.result 32768 1415 46366720 c.from.ensures.1 signal (omega arith) in
    rw c.mul.ensures (within_more _ 92733440 134217728 product (omega arith))
