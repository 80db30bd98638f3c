use Rattle.std.proofs.Common.{◌≡◌, ◌+◌, ◌-◌, ℕ, ℤ, pos, arith, ap, sym, subst, nat_abs}
use Rattle.lte_types.specs.declared.frame.Half.TheVariants.{Zero, Five}
use Rattle.accumulated_sss.specs.Steps.{counts_by}
use Rattle.accumulated_sss.proofs.Leaders.{IsLeader, first_leader, next_leader, IsChosen, chosen_of_both}
use Rattle.accumulated_sss.proofs.best.most_matching.Goals as goal

pub loop-n1-init : goal.loop-n1-init
loop-n1-init c = record {
  in_0 = first_leader (λ n1. counts_by c.args.even.now c.args.odd.now c.args.n2 n1 Zero) c.counted-first.result.in_0 (ap pos c.counted-first.ensures.in_0);
  in_5 = first_leader (λ n1. counts_by c.args.even.now c.args.odd.now c.args.n2 n1 Five) c.counted-first.result.in_5 (ap pos c.counted-first.ensures.in_5);
}

pub loop-n1-preserved : goal.loop-n1-preserved
loop-n1-preserved c =
    let n = c.loop-n1.n1 in
    let f : ℕ → ℤ = λ n1. counts_by c.args.even.now c.args.odd.now c.args.n2 n1 Zero in
    let g : ℕ → ℤ = λ n1. counts_by c.args.even.now c.args.odd.now c.args.n2 n1 Five in
    let next : n + 1 - 1 ≡ n = omega arith in
    record {
      in_0 = subst (λ (m : ℕ). IsLeader f m c.better-in_0.result) (sym next) (subst (IsLeader f n) (sym c.better-in_0.ensures)
          (next_leader f n c.counted-here.result.in_0 c.loop-n1.in_0 (omega arith) c.loop-n1.invariant.in_0 (ap pos c.counted-here.ensures.in_0)));
      in_5 = subst (λ (m : ℕ). IsLeader g m c.better-in_5.result) (sym next) (subst (IsLeader g n) (sym c.better-in_5.ensures)
          (next_leader g n c.counted-here.result.in_5 c.loop-n1.in_5 (omega arith) c.loop-n1.invariant.in_5 (ap pos c.counted-here.ensures.in_5)));
    }

chosen : (c : goal.After-of_both) → IsChosen (counts_by c.args.even.now c.args.odd.now c.args.n2) c.of_both.result
chosen c =
    let last : c.loop-n1.n1 - 1 ≡ 167 = omega arith in
    let scores = counts_by c.args.even.now c.args.odd.now c.args.n2 in
    subst (IsChosen scores) (sym c.of_both.ensures)
    (chosen_of_both scores c.loop-n1.in_0 c.loop-n1.in_5
    (subst (λ (m : ℕ). IsLeader (λ n1. scores n1 Zero) m c.loop-n1.in_0) last c.loop-n1.invariant.in_0)
    (subst (λ (m : ℕ). IsLeader (λ n1. scores n1 Five) m c.loop-n1.in_5) last c.loop-n1.invariant.in_5))

pub returns-clause-pair : goal.returns-clause-pair
returns-clause-pair c = (chosen c).best

pub returns-clause-matches : goal.returns-clause-matches
returns-clause-matches c = ap nat_abs (chosen c).count

pub returns-clause-group : goal.returns-clause-group
returns-clause-group c = (chosen c).group
