-- One attempt to read SystemInformationBlockType1 in subframe 5 of one frame (the order of the refusals is own).
use Rattle.std.specs.Prelude.{◌≡◌, ℕ, Bool, List, [], Option, None, Some, Result, Ok, Err}
use Rattle.lte_types.specs.declared.sib1.Sib1.{Sib1}
use Rattle.lte_types.specs.declared.sib1_reason.Sib1Reason.{Sib1Reason}
use Rattle.dci.specs.declared.grant.Grant.{Grant}
use Rattle.pcfich.specs.Indicator.{IsIndicator}
use Rattle.sib1_reader.specs.declared.reading.Attempt.{Attempt}
use Rattle.sib1_reader.specs.Subframe.{Subframe}
use Rattle.sib1_reader.specs.Control.{Grants}
use Rattle.sib1_reader.specs.Block.{Decodes, IsAnswerBlock}

-- `grant` is decoded from the PDCCH candidate, and `answer` from the soft values in the resource blocks that it assigns
pub record IsGranted (values : Subframe) (indicator : ℕ) (grant : Grant) (answer : Result Sib1 Sib1Reason) :
    Type 0 where
  pub grants : Grants (values.elements indicator) (values.candidate indicator) (Ok grant)
  pub decodes : Decodes (values.shared indicator grant.start grant.blocks) grant answer

-- `answer` follows from the grant; without a grant, `answer` is the reason for its absence
abbrev pub Follows : Subframe → ℕ → Option Grant → Result Sib1 Sib1Reason → Type 0
Follows values indicator (Some grant) answer = IsGranted values indicator grant answer
Follows values indicator None (Err reason) =
    Grants (values.elements indicator) (values.candidate indicator) (Err reason)
Follows values indicator None (Ok fields) = ⊥

-- `attempt` is the attempt to read system information from the soft values of subframe 5: the control format indicator,
-- the grant if there is one, and the answer
pub record IsAttempt (values : Subframe) (attempt : Attempt) : Type 0 where
  pub decoded : IsIndicator values.indicator attempt.cfi
  pub follows : Follows values attempt.cfi attempt.grant attempt.answer

-- the control format indicator and the grant with which an attempt read the fields; none if no fields were read
abbrev pub granted_with : ℕ → Option Grant → Result Sib1 Sib1Reason → Option (ℕ × Grant)
granted_with indicator (Some grant) (Ok fields) = Some (indicator, grant)
granted_with indicator (Some grant) (Err reason) = None
granted_with indicator None answer = None

-- the control format indicator and the grant with which an attempt read the fields; none if no fields were read
abbrev pub granted_by : Attempt → Option (ℕ × Grant)
granted_by attempt = granted_with attempt.cfi attempt.grant attempt.answer

-- `bits` are the transport block of the grant, which carries the fields in `answer`; there are no bits without fields
abbrev pub IsBlockBy : Subframe → ℕ → Option Grant → Result Sib1 Sib1Reason → List Bool → Type 0
IsBlockBy values indicator (Some grant) answer bits =
    IsAnswerBlock (values.shared indicator grant.start grant.blocks) grant answer bits
IsBlockBy values indicator None answer bits = bits ≡ []

-- `bits` are the transport block that carried the fields of an attempt; there are no bits without fields
abbrev pub IsAttemptBlock : Subframe → Attempt → List Bool → Type 0
IsAttemptBlock values attempt bits = IsBlockBy values attempt.cfi attempt.grant attempt.answer bits

-- `answer` is the result of the attempt to read system information from the soft values of subframe 5
pub record Reads (values : Subframe) (answer : Result Sib1 Sib1Reason) : Type 0 where
  pub attempt : Attempt
  pub is : IsAttempt values attempt
  pub answers : attempt.answer ≡ answer
