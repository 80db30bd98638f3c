use Rattle.std.proofs.Common.{◌≡◌, ℕ, ◌+◌, ◌≤◌, List, ℤ, false, pos, nat_abs, get_or, w16, length-set, ◌∙◌, arith, get_or-set_other}
use Rattle.std.proofs.lemmas.Int.{to_z-of_z, fits_signed_from_abs}
use Rattle.std.proofs.lemmas.List.Elements.{All-set, All-get_or}
use Rattle.std.proofs.lemmas.List.Edits.{fill_by_more}
use Rattle.std.proofs.lemmas.List.FromFn.{fill_by_all}
use Rattle.soft_bits.specs.Places.{descrambled_value}
use Rattle.soft_bits.proofs.scrambling.turn_by.Goals as goal

pub loop-i-preserved : goal.loop-i-preserved
loop-i-preserved c =
    let i : ℕ = c.loop-i.i in
    let old : List ℤ = c.args.values.now in
    let whole = c.loop-i.invariant.whole in
    let item : ℕ → ℤ = λ k. descrambled_value (get_or c.args.bits.now (c.args.first + k) false) (get_or old k (pos 0)) in
    let few = c.turned.ensures.magnitude in
    let kept = to_z-of_z w16 c.turned.result (fits_signed_from_abs w16 c.turned.result (omega (arith, few))) in
    let small = All-get_or (λ value. nat_abs value ≤ 127) c.loop-i.values i (pos 0) (omega (arith, whole)) c.loop-i.invariant.small in
    let seen = to_z-of_z w16 (get_or c.loop-i.values i (pos 0)) (fits_signed_from_abs w16 (get_or c.loop-i.values i (pos 0)) (omega (arith, small))) in
    let was : get_or c.loop-i.values i (pos 0) ≡ get_or old i (pos 0) = c.loop-i.invariant.left i (omega arith) in
    let here : c.turned.result ≡ item i = rw (seen, was) at c.turned.ensures.value in
    rw (kept, here) (record {
      whole = length-set c.loop-i.values i _ ∙ whole;
      done = fill_by_more item c.loop-i.values i (pos 0) (omega (arith, whole)) c.loop-i.invariant.done;
      left = λ k past. get_or-set_other c.loop-i.values i k (item i) (pos 0) (λ e. absurd (omega (arith, e, past))) ∙ c.loop-i.invariant.left k (omega (arith, past));
      small = All-set (λ value. nat_abs value ≤ 127) c.loop-i.values i (item i) (rw (← here) few) c.loop-i.invariant.small;
    })

pub returns-clause-values : goal.returns-clause-values
returns-clause-values c =
    let whole = c.loop-i.invariant.whole in
    fill_by_all (λ k. descrambled_value (get_or c.args.bits.now (c.args.first + k) false) (get_or c.args.values.now k (pos 0))) c.loop-i.values _ (pos 0) whole
    (λ k few. c.loop-i.invariant.done k (omega (arith, whole, few)))
