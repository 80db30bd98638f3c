-- The steps of the code: a recording with its mean, and bounds on numbers.
use Rattle.std.specs.Prelude.{◌≡◌, ◌≤◌, List, nat_abs}
use Rattle.cs_num.specs.declared.Cpx.{Cpx}
use Rattle.cs_num.specs.declared.Sample.{Sample}
use Rattle.cs_num.specs.Complex.{IsWithin}
use Rattle.lte_types.specs.declared.hit.Hit.{Hit}
use Rattle.sample_file.specs.Recording.{IsRecording}
use Rattle.pss_search.specs.Hits.{IsInSpan}
use Rattle.frequency_offset.specs.declared.candidate.Candidate.{Candidate}
use Rattle.frequency_offset.specs.Turned.{mean}
use Rattle.frequency_offset.specs.Fractions.{fraction_of, IsSmall}

-- `recording` is valid, and `centre` is its mean, with components of magnitude at most 32,768
pub record IsCentred (recording : List Sample) (centre : Cpx) : Type 0 where
  pub valid : IsRecording recording
  pub mean : centre ≡ mean recording
  pub small : IsWithin 32768 centre

-- a hit in the PSS search span whose fraction meets the bounds of `IsSmall`
pub record IsSmallHit (hit : Hit) : Type 0 where
  pub span : IsInSpan hit
  pub fraction : IsSmall (fraction_of hit)

-- a candidate whose offset is at most 576 steps in magnitude, and whose fraction meets the bounds of `IsSmall`
pub record IsSmallCandidate (candidate : Candidate) : Type 0 where
  pub turn : nat_abs candidate.turn ≤ 576
  pub fraction : IsSmall candidate.fraction
