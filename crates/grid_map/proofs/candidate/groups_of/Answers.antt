use Rattle.std.proofs.Common.{◌<◌, length-set, refl, arith, ◌∙◌}
use Rattle.std.proofs.lemmas.List.Elements.{All-replicate, All-set}
use Rattle.std.proofs.lemmas.List.FromFn.{fill_by_all}
use Rattle.std.proofs.lemmas.List.Edits.{fill_by_more}
use Rattle.grid_map.specs.Candidate.{group_of_quadruplet}
use Rattle.grid_map.proofs.candidate.groups_of.Goals as goal

pub loop-q-init : goal.loop-q-init
loop-q-init c = record {
  whole = refl;
  each = λ k below. absurd (omega (arith, below));
  inside = All-replicate (λ r. r < c.args.count) 36 0 (omega arith);
}

pub loop-q-preserved : goal.loop-q-preserved
loop-q-preserved c =
    let here = c.group_of.ensures.value in
    let few = c.group_of.ensures.bound in
    rw here (record {
      whole = length-set c.loop-q.groups c.loop-q.q _ ∙ c.loop-q.invariant.whole;
      each = fill_by_more (group_of_quadruplet c.args.id c.args.count) c.loop-q.groups c.loop-q.q 0 (omega (arith, c.loop-q.invariant.whole)) c.loop-q.invariant.each;
      inside = All-set (λ r. r < c.args.count) c.loop-q.groups c.loop-q.q (group_of_quadruplet c.args.id c.args.count c.loop-q.q) (rw (← here) few) c.loop-q.invariant.inside;
    })

pub returns-clause-values : goal.returns-clause-values
returns-clause-values c =
    fill_by_all (group_of_quadruplet c.args.id c.args.count) c.loop-q.groups 36 0 c.loop-q.invariant.whole (λ k few. c.loop-q.invariant.each k (omega arith))
