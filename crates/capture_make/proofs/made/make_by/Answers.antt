use Rattle.std.proofs.Common.{◌≡◌, ℕ, false, true, List, sym, subst, ◌∙◌}
use Rattle.std.specs.Prelude.{nat_abs}
use Rattle.cs_num.specs.declared.Sample.{Sample}
use Rattle.capture_make.specs.Made.{IsMadeBy, IsCleanNumber}
use Rattle.capture_make.proofs.Plans.{is_sendable_by}
use Rattle.capture_make.proofs.Samples.{IsSentFor, room_is, samples_are, is_recording, is_made}
use Rattle.capture_make.proofs.made.make_by.Goals as goal

pub with_errors-samples-requires-clause-room : goal.with_errors-samples-requires-clause-room
with_errors-samples-requires-clause-room c = room_is c.emission-sent.result c.in_ok-samples.samples.items c.in_ok-samples.ensures

pub unreachable-requires : goal.unreachable-requires
unreachable-requires c =
    let e = c.emission-sent.ensures in
    let sent : IsSentFor c.args.carrier c.args.n c.emission-sent.result =
    record { carrier_is = e.carrier; plan_is = e.cell; number_is = e.number; offset_is = e.offset; count_is = e.count; gains_are = e.gains; load_is = e.load } in
    let there : false ≡ true =
    c.in-None.ensures.valid.1 (is_recording c.args.carrier c.args.n c.bound-bound.result c.with_errors-samples.result.items
    (c.with_errors-samples.ensures ∙ samples_are c.args.carrier c.args.n c.bound-bound.result c.emission-sent.result c.in_ok-samples.samples.items sent c.in_ok-samples.ensures)) in
    absurd cc

module _ (c : goal.After-with_bound) where
  made_is : IsMadeBy c.args.carrier c.args.n c.with_bound.result
  made_is =
      let e = c.emission-sent.ensures in
      let decoded = c.with_bound.ensures in
      let sent : IsSentFor c.args.carrier c.args.n c.emission-sent.result =
      record { carrier_is = e.carrier; plan_is = e.cell; number_is = e.number; offset_is = e.offset; count_is = e.count; gains_are = e.gains; load_is = e.load } in
      is_made c.args.carrier c.args.n c.bound-bound.result c.with_bound.result (subst (IsSentFor c.args.carrier c.args.n) (sym decoded.sent) sent) c.bound-bound.ensures.bound decoded.bound
      (decoded.recording ∙ c.in-Some.ensures.value ∙ c.with_errors-samples.ensures
      ∙ samples_are c.args.carrier c.args.n c.bound-bound.result c.emission-sent.result c.in_ok-samples.samples.items sent c.in_ok-samples.ensures)

pub returns-clause-made : goal.returns-clause-made
returns-clause-made c = made_is c

pub returns-in_err-samples-clause-sendable : goal.returns-in_err-samples-clause-sendable
returns-in_err-samples-clause-sendable c = is_sendable_by c.args.carrier c.args.n

pub returns-clause-sendable : goal.returns-clause-sendable
returns-clause-sendable c = is_sendable_by c.args.carrier c.args.n

pub returns-clause-clean : goal.returns-clause-clean
returns-clause-clean c =
    let made = made_is c in
    let eps : ℕ = nat_abs c.with_bound.result.bound in
    subst (λ (list : List Sample). IsCleanNumber c.args.carrier c.args.n list eps) (sym made.samples_are) (c.numbers_are_clean.ensures c.args.carrier c.args.n c.with_bound.result.bound made.bound)
