use Rattle.std.proofs.Common.{◌≡◌, ◌≤◌, ℕ, Bool, true, false, cond, refl, sym, ap, arith}
use mir.Val.{bool_byte}
use Rattle.finite.proofs.Sums.{total_below_none, total_below_more}
use Rattle.tail_cert.specs.Stored.{has_table}
use Rattle.tail_cert.proofs.certificate.states_in.Goals as goal

as_number : (b : Bool) → (bool_byte b ≡ cond b 1 0) × (bool_byte b ≤ 1)
as_number true = (refl, omega arith)
as_number false = (refl, omega arith)

pub loop-s-init : goal.loop-s-init
loop-s-init c = (sym (total_below_none (λ s. cond (has_table c.args.set.now s) 1 0)), omega arith)

pub loop-s-preserved : goal.loop-s-preserved
loop-s-preserved c =
    let more = total_below_more c.loop-s.s (λ s. cond (has_table c.args.set.now s) 1 0) in
    let one = as_number c.has.result in
    let there = ap {B = ℕ} (λ b. cond b 1 0) c.has.ensures in
    (omega (arith, more, c.loop-s.invariant.0, one.0, there), omega (arith, one.1, c.loop-s.invariant.1))
