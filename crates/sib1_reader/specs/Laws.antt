-- Laws of the attempts to read system information.
use Rattle.std.specs.Prelude.{◌≡◌, Result, Ok}
use Rattle.lte_types.specs.declared.sib1.Sib1.{Sib1}
use Rattle.lte_types.specs.Ranges.{IsValid}
use Rattle.lte_types.specs.declared.sib1_reason.Sib1Reason.{Sib1Reason}
use Rattle.sib1_reader.specs.Subframe.{Subframe}
use Rattle.sib1_reader.specs.declared.reading.Attempt.{Attempt}
use Rattle.sib1_reader.specs.Attempt.{IsAttempt, Reads}

-- for the soft values of a subframe, there is at most one attempt
abbrev pub IsOneAttempt : Type 0
IsOneAttempt = (values : Subframe) (a b : Attempt) → IsAttempt values a → IsAttempt values b → a ≡ b

-- for the soft values of a subframe, there is at most one answer
abbrev pub IsOneAnswer : Type 0
IsOneAnswer = (values : Subframe) (a b : Result Sib1 Sib1Reason) → Reads values a → Reads values b → a ≡ b

-- for the soft values of any subframe, there is an attempt
abbrev pub IsSomeAttempt : Type 0
IsSomeAttempt = (values : Subframe) → (attempt : Attempt) × IsAttempt values attempt

-- for the soft values of any subframe, there is an answer
abbrev pub IsSomeAnswer : Type 0
IsSomeAnswer = (values : Subframe) → (answer : Result Sib1 Sib1Reason) × Reads values answer

-- the SIB1 fields that are read from a subframe are within their ranges
abbrev pub IsReadValid : Type 0
IsReadValid = (values : Subframe) (fields : Sib1) → Reads values (Ok fields) → IsValid fields
