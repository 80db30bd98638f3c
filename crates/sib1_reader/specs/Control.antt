-- The content of the PDCCH candidate in the common search space (TS 36.212 sections 5.3.3.1.3 and 5.3.3.2, TS 36.213
-- section 9.1.1), from the number of control channel elements and the 288 soft values of the first four.
use Rattle.std.specs.Prelude.{◌≡◌, ℕ, ◌<◌, ◌≤◌, Bool, List, ℤ, Result, Err}
use Rattle.lte_types.specs.declared.sib1_reason.Sib1Reason.{Sib1Reason}
use Rattle.lte_types.specs.declared.sib1_reason.Sib1Reason.TheVariants.{NoSearchSpace, NoControl}
use Rattle.cs_bits.specs.Checks.{HasCheck16, message_of}
use Rattle.conv_code.specs.Reading.{summed}
use Rattle.tailbite.specs.LeastWord.{IsLeastWord}
use Rattle.dci.specs.declared.grant.Grant.{Grant}
use Rattle.dci.specs.Format1A.{Says}
use Rattle.dci.specs.Fields.{system_information_rnti}

-- there are fewer than the four control channel elements of a candidate, and the answer reports their count
pub record HasNoSearchSpace (count reported : ℕ) : Type 0 where
  pub reported_is : reported ≡ count
  pub few : count < 4

-- `word` is the candidate's information word: the minimum-cost 37-bit word for the combined soft values
pub record IsWord (count : ℕ) (candidate : List ℤ) (word : List Bool) : Type 0 where
  pub enough : 4 ≤ count
  pub least : IsLeastWord (summed 37 candidate) word

-- the candidate's word does not end with the CRC of its first 21 bits, masked with the SI-RNTI
pub record HasNoControl (count : ℕ) (candidate : List ℤ) : Type 0 where
  pub word : List Bool
  pub is : IsWord count candidate word
  pub fails : HasCheck16 system_information_rnti word → ⊥

-- the candidate's word ends with the CRC of its first 21 bits, masked with the SI-RNTI, and `answer` is read from these
-- bits
pub record ControlSays (count : ℕ) (candidate : List ℤ) (answer : Result Grant Sib1Reason) : Type 0 where
  pub word : List Bool
  pub is : IsWord count candidate word
  pub passes : HasCheck16 system_information_rnti word
  pub says : Says (message_of 16 word) answer

-- `answer` is the candidate's grant, or the first reason why there is none
abbrev pub Grants : ℕ → List ℤ → Result Grant Sib1Reason → Type 0
Grants count candidate (Err (NoSearchSpace reported)) = HasNoSearchSpace count reported
Grants count candidate (Err NoControl) = HasNoControl count candidate
Grants count candidate answer = ControlSays count candidate answer
