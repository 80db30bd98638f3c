use Rattle.std.proofs.Common.{◌≡◌, ◌+◌, ◌∙◌, sym, ap, subst, Option}
use Rattle.cs_num.specs.declared.Cpx.{Cpx}
use Rattle.cancel.specs.declared.choosing.GainChoice.{GainChoice}
use Rattle.cancel.specs.Gain.{IsCandidate}
use Rattle.cancel.specs.Steps.{around, better_choice, choice_of, greatest_of, IsFoundBefore}
use Rattle.cancel.proofs.Found.{passed, taken}
use Rattle.cancel.proofs.choosing.with_gain.Goals as goal

pub returns-in-Some : goal.returns-in-Some
returns-in-Some c =
    let a = c.args in
    let greatest = greatest_of a.samples.now a.sent.now in
    let is : c.in-Some.gain ≡ around a.middle a.i = c.in-Some.ensures.1 ∙ c.around.ensures.value in
    let made : c.better_gain.result ≡ better_choice a.limit a.found (choice_of greatest (around a.middle a.i)) =
    c.better_gain.ensures ∙ ap (λ (gain : Cpx). better_choice a.limit a.found (choice_of greatest gain)) is in
    subst (λ (found : Option GainChoice). IsFoundBefore greatest a.middle a.limit (a.i + 1) found) (sym made)
    (taken greatest a.middle a.limit a.i a.found (subst (λ (gain : Cpx). IsCandidate a.middle gain) c.around.ensures.value c.in-Some.ensures.0) c.requires.found)

pub returns-in-None : goal.returns-in-None
returns-in-None c =
    let a = c.args in
    passed (greatest_of a.samples.now a.sent.now) a.middle a.limit a.i a.found
    (λ is. c.in-None.ensures (subst (λ (gain : Cpx). IsCandidate a.middle gain) (sym c.around.ensures.value) is)) c.requires.found
