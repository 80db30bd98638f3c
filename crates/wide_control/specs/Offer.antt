-- The grant that a PDCCH candidate offers in a DCI format (TS 36.212 section 5.3.3.2).
use Rattle.std.specs.Prelude.{◌≡◌, ℕ, ◌+◌, Bool, List, ℤ, Option, None, Some, Ok}
use Rattle.cs_bits.specs.Checks.{HasCheck16, message_of}
use Rattle.conv_code.specs.Reading.{summed}
use Rattle.tailbite.specs.LeastWord.{IsLeastWord}
use Rattle.dci.specs.Fields.{system_information_rnti}
use Rattle.wide_grant.specs.declared.grant.WideGrant.{WideGrant}
use Rattle.wide_control.specs.declared.format.DciFormat.{DciFormat}
use Rattle.wide_control.specs.Format.{payload_size, grant_in}

-- `word` ends with the CRC of its payload, masked with the SI-RNTI, and the payload has `grant`
pub record Conveys (blocks sfn : ℕ) (format : DciFormat) (word : List Bool) (grant : WideGrant) : Type 0 where
  pub passes : HasCheck16 system_information_rnti word
  pub grants : grant_in blocks sfn format (message_of 16 word) ≡ Ok grant

-- `found` is the grant that `word` conveys, or none if the word conveys no grant
abbrev pub Gives : ℕ → ℕ → DciFormat → List Bool → Option WideGrant → Type 0
Gives blocks sfn format word (Some grant) = Conveys blocks sfn format word grant
Gives blocks sfn format word None = (grant : WideGrant) → Conveys blocks sfn format word grant → ⊥

-- `found` is the grant that a candidate's soft values offer in a format: from the minimum-cost word, a payload with its
-- CRC; none if that word conveys no grant
pub record IsOffer (blocks sfn : ℕ) (values : List ℤ) (format : DciFormat) (found : Option WideGrant) :
    Type 0 where
  pub word : List Bool
  pub least : IsLeastWord (summed (payload_size blocks format + 16) values) word
  pub gives : Gives blocks sfn format word found
