use Rattle.std.proofs.Common.{◌∙◌, ◌*◌, ◌/◌, ◌^◌, ◌≤◌, ℕ, arith, ap, ap₂, subst, sym}
use Rattle.std.proofs.Math.Nat.{div-mul-le_self, mul_assoc}
use Rattle.std.proofs.lemmas.Nat.{mul-le}
use Rattle.cs_num.specs.declared.Cpx.{Cpx}
use Rattle.cs_num.specs.Complex.{IsWithin, multiple}
use Rattle.cs_num.proofs.Complex.{multiple-within, within_more}
use Rattle.soft_bits.specs.Kept.{SeenLine, along}
use Rattle.soft_bits.proofs.Lines.{port_along}
use Rattle.soft_bits.proofs.slot.PortSlot.channel.Goals as goal

-- a quotient times its divisor is at most the dividend, also when both are multiplied by m
scaled-few : (a s m : ℕ) → a / s * (s * m) ≤ a * m
scaled-few a s m = subst (λ (n : ℕ). n ≤ a * m) (mul_assoc (a / s) s m) (mul-le (a / s * s) m a m (div-mul-le_self a s) (omega arith))

pub returns-clause-value : goal.returns-clause-value
returns-clause-value g c =
    let pairing = g.K.Ports.pairing in
    c.scaled.ensures
    ∙ ap₂ (λ (n : ℕ) (z : Cpx). multiple n z) (ap₂ (λ (a b : ℕ). a / b) c.scale.ensures.value c.step.ensures.value) c.channel.ensures.value
    ∙ ap (λ (seen : SeenLine). multiple (pairing.scale / seen.step) (along seen c.args.k)) c.pilots-pilots.ensures
    ∙ port_along pairing.scale pairing.carrier c.args.port c.args.self.now c.args.k

pub returns-clause-scaled : goal.returns-clause-scaled
returns-clause-scaled g c =
    let small : IsWithin (c.step.result * (180 * 2 ^ 25)) c.channel.result =
    subst (λ (n : ℕ). IsWithin (n * (180 * 2 ^ 25)) c.channel.result) (sym c.step.ensures.value) c.channel.ensures.small in
    subst (λ (n : ℕ). IsWithin (n * (180 * 2 ^ 25)) c.scaled.result) c.scale.ensures.value
    (rw c.scaled.ensures (within_more _ _ _ (multiple-within (c.scale.result / c.step.result) c.channel.result (c.step.result * (180 * 2 ^ 25)) small)
    (scaled-few c.scale.result c.step.result (180 * 2 ^ 25))))

pub returns-clause-small : goal.returns-clause-small
returns-clause-small g c = within_more _ _ _ (returns-clause-scaled g c) (let same = c.scale.ensures.value in let few = c.scale.ensures.few in omega (arith, same, few))
