-- The transport block that carried a cell's SIB1. (own)
use Rattle.std.specs.Prelude.{◌≡◌, ℕ, ◌<◌, Bool, List, [], Some, Result, Ok, Err}
use Rattle.cs_num.specs.declared.Sample.{Sample}
use Rattle.lte_types.specs.declared.mib.Mib.{Mib}
use Rattle.lte_types.specs.declared.sib1.Sib1.{Sib1}
use Rattle.lte_types.specs.declared.sib1_reason.Sib1Reason.{Sib1Reason}
use Rattle.lte_types.specs.CellPlace.{Place}
use Rattle.dci.specs.declared.grant.Grant.{Grant}
use Rattle.sib1_reader.specs.Subframe.{Subframe}
use Rattle.sib1_reader.specs.Attempt.{IsAttempt, Reads}
use Rattle.sib1_reader.specs.Block.{IsBlock}
use Rattle.explain.specs.Decoded.{Carrying}
use Rattle.explain.specs.Receiver.{Receiver, Subframes}
use Rattle.explain.specs.System.{even_frame, IsTried}

-- ---- a subframe's transport block

-- the decoding attempt on a subframe's soft values returns SIB1 fields, and the transport block of its grant, which
-- carries the fields, has the bits `bits`
pub record HasBlock (values : Subframe) (bits : List Bool) : Type 0 where
  pub cfi : ℕ
  pub grant : Grant
  pub fields : Sib1
  pub attempt : IsAttempt values (record { cfi = cfi; grant = Some grant; answer = Ok fields })
  pub block : IsBlock (values.shared cfi grant.start grant.blocks) grant (Some bits)

-- no decoding attempt on a subframe's soft values returns SIB1 fields
abbrev pub HasNoBlock : Subframe → Type 0
HasNoBlock values = (fields : Sib1) → Reads values (Ok fields) → ⊥

-- ---- a cell's transport block. `values` are the soft values of subframe 5 by frame, from the first frame

-- `bits` are the transport block from the first tried frame that has one
pub record IsFirstBlock (values : ℕ → Subframe) (recording : List Sample) (start sfn : ℕ) (bits : List Bool) :
    Type 0 where
  pub i : ℕ
  pub tried : IsTried recording start sfn i
  pub has : HasBlock (values (even_frame sfn i)) bits
  pub first : (h : ℕ) → h < i → HasNoBlock (values (even_frame sfn h))

-- `bits` are the transport block decoded from a receiver's soft values of subframe 5; there are no bits if the receiver
-- does not read SIB1
abbrev pub IsBlockWith : Result Subframes Sib1Reason → List Sample → Place → ℕ → Mib → List Bool → Type 0
IsBlockWith (Ok values) recording place sfn mib bits =
    IsFirstBlock (λ j. values recording place j mib.duration mib.resource) recording place.start sfn bits
IsBlockWith (Err reason) recording place sfn mib bits = bits ≡ []

-- `bits` satisfy `Is` if SIB1 was decoded, and there are no bits if it was not
abbrev pub IsDecodedWith : Result Sib1 Sib1Reason → (List Bool → Type 0) → List Bool → Type 0
IsDecodedWith (Ok fields) Is bits = Is bits
IsDecodedWith (Err reason) Is bits = bits ≡ []

-- the bits of the transport block that carried a cell's SIB1, without its CRC, as a receiver decodes them; there are no
-- bits if the cell has no SIB1
abbrev pub IsBlockFor : Receiver → List Sample → Carrying
IsBlockFor receiver recording place sfn mib sib1 =
    IsDecodedWith sib1 (IsBlockWith receiver.subframe recording place sfn mib)
