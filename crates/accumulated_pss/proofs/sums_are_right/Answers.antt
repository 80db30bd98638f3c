use Rattle.accumulated_pss.proofs.Ratios.{half_frames_are_complete, ratios_are_below_one}
use Rattle.accumulated_pss.proofs.Rows.{rows_hold_sums, first_samples_decide}
use Rattle.accumulated_pss.proofs.sums_are_right.Goals as goal

pub returns : goal.returns
returns c = record {
  complete = half_frames_are_complete;
  below = ratios_are_below_one;
  sums = rows_hold_sums;
  decided = first_samples_decide;
}
