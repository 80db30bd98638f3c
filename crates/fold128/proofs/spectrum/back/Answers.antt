use Rattle.std.proofs.Common.{arith, ◌≡◌, ◌∙◌, refl}
use Rattle.std.proofs.lemmas.Int.{ints}
use Rattle.cs_num.specs.declared.Cpx.{Cpx}
use Rattle.cs_num.specs.Complex.{times_j, times_minus_j, negated}
use Rattle.cs_num.proofs.Complex.{pair}
use Rattle.fold128.specs.Folding.{back_by}
use Rattle.fold128.proofs.spectrum.back.Goals as goal

three_back : (z : Cpx) → times_j z ≡ times_minus_j (negated z)
three_back z = pair refl (omega (arith, ints))

pub returns-in-0 : goal.returns-in-0
unfolding back_by
returns-in-0 c = rw c.in-0.is refl

pub returns-in-1 : goal.returns-in-1
unfolding back_by
returns-in-1 c = c.times_minus_j.ensures ∙ rw c.in-1.is refl

pub returns-in-2 : goal.returns-in-2
unfolding back_by
returns-in-2 c = c.neg.ensures ∙ rw c.in-2.is refl

pub returns-in_default : goal.returns-in_default
unfolding back_by
returns-in_default c =
    let last : c.args.turns ≡ 3 = omega arith in
    c.times_j.ensures ∙ rw last (three_back c.args.z)
