use Rattle.std.proofs.Common.{◌∙◌, ◌+◌, arith, ap, sym, subst}
use Rattle.accumulated_pss.specs.Steps.{with_ratios, AreRows}
use Rattle.accumulated_pss.proofs.Rows.{rows_more, rows_have_room}
use Rattle.accumulated_pss.proofs.sums.Accumulated.add_half_frame.Goals as goal

pub add_next-requires-clause-room : goal.add_next-requires-clause-room
add_next-requires-clause-room c = rows_have_room c.args.samples.now c.args.half c.loop-i.i c.loop-i.self c.requires.half (omega arith) c.loop-i.invariant.rows

pub loop-i-preserved : goal.loop-i-preserved
loop-i-preserved c =
    let samples = c.args.samples.now in
    let i = c.loop-i.i in
    let next = rows_more samples c.args.half i c.loop-i.self (omega arith) c.loop-i.invariant.rows in
    record {
      recording = c.add_next.ensures.recording ∙ c.loop-i.invariant.recording;
      place = let step = c.add_next.ensures.place in let before = c.loop-i.invariant.place in omega (arith, step, before);
      rows = subst (AreRows samples c.args.half (i + 1)) (sym (c.add_next.ensures.rows ∙ ap (λ r. with_ratios r i c.loop-i.self) c.loop-i.invariant.recording)) next;
    }
