-- The JSON of an estimation contains only whole numbers.
use Rattle.std.proofs.Common.{◌≡◌, List, Option, false, refl}
use Rattle.std.proofs.lemmas.Bool.{or_from}
use Rattle.serde_json.specs.Written.{has_float}
use Rattle.frequency_offset.specs.declared.candidate.Candidate.{Candidate}
use Rattle.frequency_offset.specs.declared.estimation.OffsetEstimate.{OffsetEstimate}
use Rattle.report_json.proofs.Floats.{in_integer, in_list, in_option}
use Rattle.report_json.specs.Offset.{estimate_value, candidate_value, estimation_value}

in_estimate : (estimate : OffsetEstimate) → has_float (estimate_value estimate) ≡ false
in_estimate estimate = or_from _ _ (in_integer estimate.turn) refl

in_candidate : (candidate : Candidate) → has_float (candidate_value candidate) ≡ false
in_candidate candidate = or_from _ _ (in_integer candidate.coarse) (or_from _ _ (in_integer candidate.turn) refl)

pub in_estimation : (estimate : Option OffsetEstimate) (taken : List Candidate) → has_float (estimation_value estimate taken) ≡ false
in_estimation estimate taken = or_from _ _ (in_list candidate_value in_candidate taken) (or_from _ _ (in_option estimate_value in_estimate estimate) refl)
