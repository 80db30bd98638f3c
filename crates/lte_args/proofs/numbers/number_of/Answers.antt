use Rattle.std.proofs.Common.{◌≡◌, Ok, ap, sym, ◌∙◌, arith}
use Rattle.std.specs.Fmt.{decimal}
use Rattle.std.proofs.lemmas.Fmt.{parse-decimal}
use Rattle.lte_args.proofs.numbers.number_of.Goals as goal

pub returns-in-Ok-clause-none : goal.returns-in-Ok-clause-none
returns-in-Ok-clause-none c none n small is =
    let read : c.parse.result ≡ Ok n = parse-decimal 32 n c.args.text.now c.parse.result small (omega (arith, small)) is c.parse.ensures.value.0 in
    let same : c.in-Ok.n ≡ n = cc (sym c.in-Ok.is ∙ read) in
    c.exactly.ensures.none none (is ∙ ap decimal (sym same))

pub returns-in-Err-clause-none : goal.returns-in-Err-clause-none
returns-in-Err-clause-none c none n small is =
    let read : c.parse.result ≡ Ok n = parse-decimal 32 n c.args.text.now c.parse.result small (omega (arith, small)) is c.parse.ensures.value.0 in
    absurd (cc (sym c.in-Err.is ∙ read))
