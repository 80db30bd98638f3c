use Rattle.std.proofs.Common.{◌≡◌, ℕ, ◌<◌, false, slice_index_or}
use Rattle.lte_types.specs.declared.hit.Hit.{Hit}
use Rattle.explain.specs.Receiver.{has_step_before}
use Rattle.explain.proofs.hit_list.early_hits.Given as goal

abbrev pub invariant-loop-at : goal.invariant-loop-at
invariant-loop-at l = record {
  early : (k : ℕ) (d : Hit) → k < l.at → has_step_before l.fn.carrier (slice_index_or l.hits k d) ≡ false;
}
