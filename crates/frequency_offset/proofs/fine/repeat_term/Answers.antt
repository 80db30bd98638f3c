use Rattle.std.proofs.Common.{◌≡◌, ◌+◌, ◌-◌, ◌∙◌, arith, ap, ap₂, sym, subst}
use Rattle.cs_num.specs.Complex.{IsWithin, value_of, sample_at, times, conjugate}
use Rattle.cs_num.proofs.Complex.{conjugate-within, times-within}
use Rattle.frequency_offset.proofs.fine.repeat_term.Goals as goal

pub returns-clause-value : goal.returns-clause-value
returns-clause-value c =
    let early : c.from-early.result ≡ sample_at c.args.turned.now (c.args.u - 9 + c.args.i) = c.from-early.ensures.0 ∙ ap value_of c.at.ensures in
    let late : c.from-late.result ≡ sample_at c.args.turned.now (c.args.u + 119 + c.args.i) = c.from-late.ensures.0 ∙ ap value_of c.at-2.ensures in
    c.mul.ensures ∙ ap₂ times (c.conj.ensures ∙ ap conjugate early) late

pub returns-clause-small : goal.returns-clause-small
returns-clause-small c =
    let a = subst (IsWithin 32768) (sym c.conj.ensures) (conjugate-within c.from-early.result 32768 c.from-early.ensures.1) in
    subst (IsWithin 2147483648) (sym c.mul.ensures) (times-within c.conj.result c.from-late.result 32768 32768 1073741824 a c.from-late.ensures.1 (omega arith))
