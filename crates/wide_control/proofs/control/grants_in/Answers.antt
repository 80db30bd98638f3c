use Rattle.std.proofs.Common.{◌∙◌, take, sym}
use Rattle.wide_grid.specs.Candidate.{candidates}
use Rattle.wide_control.specs.Control.{searches_among}
use Rattle.wide_control.proofs.Found.{next_searched, next_left_out}
use Rattle.wide_control.proofs.control.grants_in.Goals.{then-has_candidate+in_ok-add_offers, else-has_candidate}
use Rattle.wide_control.proofs.control.grants_in.Goals as goal

pub loop-i-preserved : goal.loop-i-preserved
loop-i-preserved c =
    let slot = c.args.slot.now in
    let groups = c.args.groups.now in
    let done = searches_among c.args.elements (take c.loop-i.i candidates) in
    elim c.if-has_candidate.branch [
      | then-has_candidate+in_ok-add_offers w ↦
          rw w.grants-is (record {
            grants = next_searched slot c.args.sfn groups c.args.elements c.loop-i.i _ _ c.loop-i-test.true (sym c.has_candidate.ensures ∙ w.if-has_candidate.true)
                (w.in_ok-add_offers.ensures.grants done c.loop-i.invariant.grants);
            bounded = w.in_ok-add_offers.ensures.bounded;
          })
      | else-has_candidate w ↦
          rw w.grants-is (record {
            grants = next_left_out slot c.args.sfn groups c.args.elements c.loop-i.i _ _ c.loop-i-test.true (sym c.has_candidate.ensures ∙ w.if-has_candidate.false)
                c.loop-i.invariant.grants;
            bounded = c.loop-i.invariant.bounded;
          })
    ]
