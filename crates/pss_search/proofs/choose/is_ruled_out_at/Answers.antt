use Rattle.std.proofs.Common.{arith, refl, ◌≡◌, ◌∙◌, ◌+◌, ◌-◌, ℕ, Bool, false, sym, ap}
use Rattle.finite.specs.Tests.{any_below}
use Rattle.pss_search.specs.Tests.{rules_out, is_ruled_out}
use Rattle.finite.proofs.Tests.{any_below_more, any_below_at}
use Rattle.pss_search.proofs.choose.is_ruled_out_at.Goals as goal

pub loop-d-init : goal.loop-d-init
unfolding any_below
loop-d-init c = refl

pub loop-d-preserved : goal.loop-d-preserved
loop-d-preserved c =
    let p : ℕ → Bool = λ d. rules_out c.args.recent.now.recording c.args.root.now.n2 c.args.t (c.args.t - 9 + d) in
    let before : any_below c.loop-d.d p ≡ false = c.loop-d.invariant in
    let here : p c.loop-d.d ≡ false = sym c.rules_out_at.ensures ∙ c.if-rules_out_at.false in
    any_below_more c.loop-d.d p ∙ rw (before, here) refl

pub returns-then-rules_out_at : goal.returns-then-rules_out_at
unfolding is_ruled_out
returns-then-rules_out_at c =
    let p : ℕ → Bool = λ d. rules_out c.args.recent.now.recording c.args.root.now.n2 c.args.t (c.args.t - 9 + d) in
    sym (any_below_at 19 c.loop-d.d p (omega arith) (sym c.rules_out_at.ensures ∙ c.if-rules_out_at.true))

pub returns : goal.returns
unfolding is_ruled_out
returns c =
    let p : ℕ → Bool = λ d. rules_out c.args.recent.now.recording c.args.root.now.n2 c.args.t (c.args.t - 9 + d) in
    let last : c.loop-d.d ≡ 19 = omega arith in
    sym (ap (λ n. any_below n p) (sym last) ∙ c.loop-d.invariant)
