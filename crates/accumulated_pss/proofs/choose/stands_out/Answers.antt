use Rattle.std.proofs.Common.{◌≡◌, ◌∙◌, ◌+◌, arith, sym, true, false}
use Rattle.std.proofs.lemmas.Bool.{false≢true, false_from_ne_true}
use Rattle.std.proofs.lemmas.Bool.Decides.{nat_tests}
use Rattle.finite.proofs.Tests.{every_below_at, every_below_all, each_below_more}
use Rattle.accumulated_pss.specs.Tests.{stands_out_by, stands_out}
use Rattle.accumulated_pss.proofs.choose.stands_out.Goals as goal

pub loop-d-preserved : goal.loop-d-preserved
loop-d-preserved c =
    let here : c.stands_out_by.result ≡ true = grind (arith, nat_tests) in
    each_below_more (λ k. stands_out_by c.args.row.now (137 + c.args.i) k ≡ true) c.loop-d.d c.loop-d.invariant
    (sym c.stands_out_by.ensures ∙ here)

pub returns-then-not-stands_out_by : goal.returns-then-not-stands_out_by
unfolding stands_out
returns-then-not-stands_out_by c =
    let here : c.stands_out_by.result ≡ false = grind (arith, nat_tests) in
    let test = stands_out_by c.args.row.now (137 + c.args.i) in
    sym (false_from_ne_true (stands_out c.args.row.now (137 + c.args.i)) (λ all.
    false≢true (sym here ∙ c.stands_out_by.ensures ∙ every_below_at 9 test all c.loop-d.d (omega arith))))

pub returns : goal.returns
unfolding stands_out
returns c =
    let last : c.loop-d.d ≡ 9 = omega arith in
    sym (every_below_all 9 (stands_out_by c.args.row.now (137 + c.args.i)) (λ k l. c.loop-d.invariant k (omega (arith, last, l))))
