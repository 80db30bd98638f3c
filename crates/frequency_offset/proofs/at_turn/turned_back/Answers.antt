use Rattle.std.proofs.Common.{rules, ◌∙◌, arith, ap, ap₂, sym, subst, w64, FitsSigned}
use Rattle.std.proofs.lemmas.Int.{to_z-of_z}
use Rattle.cs_num.specs.Rounding.{rounded, nearest_sample}
use Rattle.std.proofs.lemmas.Nat.{mul-le}
use Rattle.cs_num.specs.declared.Cpx.{Cpx}
use Rattle.cs_num.specs.Complex.{IsWithin, largest_part, minus, times, conjugate}
use Rattle.cs_num.proofs.Complex.{largest_part-le, minus-within, conjugate-within, times-within}
use Rattle.frequency_offset.specs.Turned.{w_of, turned_back}
use Rattle.frequency_offset.proofs.at_turn.turned_back.Goals as goal

module _ (c : goal.After-conj) where
  centred_small : IsWithin 65536 c.sub-centred.result
  centred_small = subst (IsWithin 65536) (sym c.sub-centred.ensures) (minus-within c.from.result c.args.mean 32768 32768 65536 c.from.ensures.1 c.requires (omega arith))

  turn_small : IsWithin 16384 c.conj.result
  turn_small = subst (IsWithin 16384) (sym c.conj.ensures) (conjugate-within c.w_at.result 16384 c.w_at.ensures.small)

pub mul-requires : goal.mul-requires
mul-requires c =
    let a = largest_part-le c.sub-centred.result 65536 (centred_small c) in
    let b = largest_part-le c.conj.result 16384 (turn_small c) in
    omega (arith, mul-le (largest_part c.sub-centred.result) (largest_part c.conj.result) 65536 16384 a b)

pub round_shift-requires-clause-magnitude : goal.round_shift-requires-clause-magnitude
round_shift-requires-clause-magnitude c =
    let t = times-within c.sub-centred.result c.conj.result 65536 16384 1073741824 (centred_small c.before) (turn_small c.before) (omega arith) in
    let e = c.mul.ensures in
    rw e (omega (arith, largest_part-le (times c.sub-centred.result c.conj.result) 2147483648 t))

pub returns : goal.returns
unfolding turned_back
returns c =
    let f : FitsSigned w64 c.args.angle = search rules in
    let value = c.sub-centred.ensures ∙ ap (λ (v : Cpx). minus v c.args.mean) c.from.ensures.0 in
    let turn = c.conj.ensures ∙ ap conjugate (c.w_at.ensures.value ∙ ap w_of (to_z-of_z w64 c.args.angle f)) in
    c.nearest_sample.ensures ∙ ap nearest_sample (c.round_shift.ensures ∙ ap (λ (z : Cpx). rounded z 14) (c.mul.ensures ∙ ap₂ times value turn))
