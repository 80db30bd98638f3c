use Rattle.std.proofs.Common.{arith, ◌≡◌, ◌*◌, ◌^◌, ◌∙◌, ap}
use Rattle.cs_num.specs.Complex.{times, conjugate, value_at}
use Rattle.cs_num.proofs.SoFar.{none_so_far, one_more}
use Rattle.tones.specs.Folding.{folded_term}
use Rattle.tones.proofs.Laws.{t_same}
use Rattle.tones.proofs.folding.tone_sum.Goals.{After-add-sum}
use Rattle.tones.proofs.folding.tone_sum.Goals as goal

pub loop-m-init : goal.loop-m-init
loop-m-init c = record { sum = none_so_far (2 ^ 36) (folded_term c.args.row.now c.args.step); at = omega arith }

module _ (c : After-add-sum) where
  term_is : c.product.result ≡ folded_term c.args.row.now c.args.step c.loop-m.m
  term_is =
      c.product.ensures.value ∙ ap (λ t. times (value_at c.args.row.now c.loop-m.m) (conjugate t))
      (c.at.ensures.value ∙ t_same c.loop-m.at (c.args.step * c.loop-m.m) (omega (arith, c.loop-m.invariant.at)))

pub loop-m-preserved : goal.loop-m-preserved
loop-m-preserved c = record {
  sum = one_more (2 ^ 36) c.loop-m.m (folded_term c.args.row.now c.args.step) c.loop-m.sum c.product.result c.add-sum.result c.loop-m.invariant.sum
      (term_is c) c.product.ensures.small c.add-sum.ensures;
  at = omega (arith, c.loop-m.invariant.at);
}
