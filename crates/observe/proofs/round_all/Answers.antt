use Rattle.std.proofs.Common.{arith, rules, ◌≡◌, ◌∙◌, sym, subst, refl, length, length-set}
use Rattle.std.proofs.lemmas.List.Elements.{All-set, All-replicate, All-get_or}
use Rattle.std.proofs.lemmas.List.FromFn.{fill_by_all}
use Rattle.std.proofs.lemmas.List.Edits.{fill_by_more}
use Rattle.cs_num.specs.Complex.{IsWithin, nothing, value_at}
use Rattle.cs_num.specs.Rounding.{rounded}
use Rattle.observe.specs.Steps.{rounded_values}
use Rattle.observe.proofs.Seen.{rounded-within}
use Rattle.observe.proofs.round_all.Goals as goal

pub loop-k-init : goal.loop-k-init
loop-k-init c = record {
  whole = refl;
  each = λ k below. absurd (omega arith);
  small = All-replicate (IsWithin 23726080) 72 nothing (record { re = omega arith; im = omega arith });
}

pub round_shift-requires-clause-magnitude : goal.round_shift-requires-clause-magnitude
round_shift-requires-clause-magnitude c =
    let long : length c.args.sums.now ≡ 72 = search rules in
    let here : IsWithin 97182023680 (value_at c.args.sums.now c.loop-k.k) = All-get_or (IsWithin 97182023680) c.args.sums.now c.loop-k.k nothing (omega arith) c.requires in
    omega (arith, here.re, here.im)

pub loop-k-preserved : goal.loop-k-preserved
loop-k-preserved c =
    let long : length c.args.sums.now ≡ 72 = search rules in
    let here : IsWithin 97182023680 (value_at c.args.sums.now c.loop-k.k) = All-get_or (IsWithin 97182023680) c.args.sums.now c.loop-k.k nothing (omega arith) c.requires in
    let small : IsWithin 23726080 c.round_shift.result = subst (IsWithin 23726080) (sym c.round_shift.ensures) (rounded-within (value_at c.args.sums.now c.loop-k.k) here) in
    record {
      whole = length-set c.loop-k.out c.loop-k.k _ ∙ c.loop-k.invariant.whole;
      each = rw c.round_shift.ensures (fill_by_more (λ k. rounded (value_at c.args.sums.now k) 12) c.loop-k.out c.loop-k.k nothing (omega arith) c.loop-k.invariant.each);
      small = All-set (IsWithin 23726080) c.loop-k.out c.loop-k.k c.round_shift.result small c.loop-k.invariant.small;
    }

pub returns-clause-value : goal.returns-clause-value
unfolding rounded_values
returns-clause-value c =
    let last : c.loop-k.k ≡ 72 = omega arith in
    fill_by_all (λ k. rounded (value_at c.args.sums.now k) 12) c.loop-k.out 72 nothing c.loop-k.invariant.whole (λ k l. c.loop-k.invariant.each k (omega arith))
