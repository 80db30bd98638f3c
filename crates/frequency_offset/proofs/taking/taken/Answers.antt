use Rattle.std.proofs.Common.{◌≡◌, ◌-◌, ◌<◌, ◌∙◌, arith, ap, sym, vec_len, filter}
use Rattle.frequency_offset.specs.declared.candidate.Candidate.{Candidate}
use Rattle.frequency_offset.specs.Candidates.{is_far, first_taken}
use Rattle.frequency_offset.specs.Steps.{IsSmallCandidate}
use Rattle.frequency_offset.proofs.Greatest.{greatest_has}
use Rattle.frequency_offset.proofs.Takes.{best_of_all, taken_none, taken_no_more, one_taken, all_taken}
use Rattle.frequency_offset.proofs.taking.taken.Goals as goal

pub far_from-requires-clause-best : goal.far_from-requires-clause-best
far_from-requires-clause-best c =
    greatest_has IsSmallCandidate (λ (x : Candidate). x.fraction) c.take.rest.items c.in-Some.best c.take.invariant.small (sym (c.in-Some.ensures ∙ ap best_of_all c.deref.ensures.value))

pub take-preserved : goal.take-preserved
take-preserved c =
    let best = sym (c.in-Some.ensures ∙ ap best_of_all c.deref.ensures.value) in
    let few : vec_len c.take.taken < 4 = omega arith in
    let pushed = c.in_ok-push-in-Some.ensures in
    let far = c.in_ok-rest-in-Some.ensures.value ∙ ap (filter (is_far c.in-Some.best)) c.deref-in-Some.ensures.value in
    record {
      split = one_taken (vec_len c.take.taken) (vec_len c.push.new.self) c.args.candidates.items c.take.taken.items c.take.rest.items
          c.push.new.self.items c.in_ok-rest-in-Some.rest.items c.in-Some.best few best c.take.invariant.split pushed.items pushed.len far;
      small = c.in_ok-rest-in-Some.ensures.small;
      few = omega (arith, few, pushed.len);
    }

pub returns-in-None : goal.returns-in-None
returns-in-None c =
    let none = sym (c.in-None.ensures ∙ ap best_of_all c.deref.ensures.value) in
    all_taken (vec_len c.take.taken) c.args.candidates.items c.take.taken.items c.take.rest.items c.take.invariant.split
    (taken_none (4 - vec_len c.take.taken) c.take.rest.items none)

pub returns : goal.returns
returns c =
    let full : 4 - vec_len c.take.taken ≡ 0 = omega arith in
    all_taken (vec_len c.take.taken) c.args.candidates.items c.take.taken.items c.take.rest.items c.take.invariant.split
    (ap (λ n. first_taken n c.take.rest.items) full ∙ taken_no_more c.take.rest.items)
