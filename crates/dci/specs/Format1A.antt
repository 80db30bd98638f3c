-- The decoding of DCI format 1A when it grants SystemInformationBlockType1.
use Rattle.std.specs.Prelude.{◌≡◌, ℕ, ◌<◌, ◌≤◌, ◌⊎◌, Bool, true, false, if◌then◌else◌, nat_eq, List, [], ◌∷◌, ◌++◌, None, Some, Result, Ok, Err}
use Rattle.lte_types.specs.declared.sib1_reason.Sib1Reason.{Sib1Reason}
use Rattle.lte_types.specs.declared.sib1_reason.Sib1Reason.TheVariants.{NotFormat1A, Distributed, BadRiv, ReservedMcs, BlockTooLarge}
use Rattle.cs_bits.specs.Numbers.{bits_of}
use Rattle.dci.specs.declared.grant.Grant.{Grant}
use Rattle.dci.specs.Fields.{is_1a, is_distributed, assignment, mcs, harq, new_data, rv, tpc_high, tpc_low, padding}
use Rattle.lte_types.specs.Assignment.{AreBlocks}
use Rattle.dci.specs.Assignment.{riv_of}
use Rattle.dci.specs.Sizes.{size_of}

-- the column, 2 or 3, of the table of transport block sizes that the power control command's low bit selects
abbrev pub column_of : Bool → ℕ
column_of low = if low then 3 else 2

-- `bits` are localised format 1A and carry `grant`
pub record Carries (bits : List Bool) (grant : Grant) : Type 0 where
  pub format : is_1a bits ≡ true
  pub localised : is_distributed bits ≡ false
  pub blocks : AreBlocks grant.start grant.blocks
  pub assigned : assignment bits ≡ riv_of grant.start grant.blocks
  pub mcs_is : mcs bits ≡ grant.mcs
  pub mcs_valid : grant.mcs ≤ 26
  pub rv_is : rv bits ≡ grant.rv
  pub column_is : grant.column ≡ column_of (tpc_low bits)
  pub size_is : size_of grant.mcs grant.column ≡ Some grant.size

-- `bits` are sent for `grant`: they carry it, and the fields that the receiver ignores are 0
pub record IsSentFor (bits : List Bool) (grant : Grant) : Type 0 where
  pub carries : Carries bits grant
  pub harq_is : harq bits ≡ 0
  pub old : new_data bits ≡ false
  pub power : tpc_high bits ≡ false
  pub pads : padding bits ≡ false

-- `bits` are refused because their format is not 1A
pub record IsOther (bits : List Bool) : Type 0 where
  pub format : is_1a bits ≡ false

-- `bits` are refused because their resource blocks are distributed
pub record IsDistributed (bits : List Bool) : Type 0 where
  pub format : is_1a bits ≡ true
  pub distributed : is_distributed bits ≡ true

-- `bits` are refused because their resource indication value, `reported`, is above 20
pub record HasBadRiv (bits : List Bool) (reported : ℕ) : Type 0 where
  pub format : is_1a bits ≡ true
  pub localised : is_distributed bits ≡ false
  pub value : reported ≡ assignment bits
  pub above : 20 < reported

-- `bits` are refused because their modulation and coding scheme, `reported`, is above 26
pub record HasReservedMcs (bits : List Bool) (reported : ℕ) : Type 0 where
  pub format : is_1a bits ≡ true
  pub localised : is_distributed bits ≡ false
  pub assigned : assignment bits ≤ 20
  pub value : reported ≡ mcs bits
  pub above : 26 < reported

-- `bits` are refused because the table has no transport block size for their modulation and coding scheme
pub record HasNoSize (bits : List Bool) : Type 0 where
  pub format : is_1a bits ≡ true
  pub localised : is_distributed bits ≡ false
  pub assigned : assignment bits ≤ 20
  pub mcs_valid : mcs bits ≤ 26
  pub none : size_of (mcs bits) (column_of (tpc_low bits)) ≡ None

-- `bits` are refused for a reason; reasons without an equation here belong to other decoding steps
abbrev pub IsRefused : List Bool → Sib1Reason → Type 0
IsRefused bits NotFormat1A = IsOther bits
IsRefused bits Distributed = IsDistributed bits
IsRefused bits (BadRiv reported) = HasBadRiv bits reported
IsRefused bits (ReservedMcs reported) = HasReservedMcs bits reported
IsRefused bits BlockTooLarge = HasNoSize bits
IsRefused bits _ = ⊥

-- `bits` decode to a grant, or are refused for a reason
abbrev pub Says : List Bool → Result Grant Sib1Reason → Type 0
Says bits (Ok grant) = Carries bits grant
Says bits (Err reason) = IsRefused bits reason

-- `grant` is valid: some bits carry it
pub record IsGrant (grant : Grant) : Type 0 where
  pub blocks : AreBlocks grant.start grant.blocks
  pub mcs_valid : grant.mcs ≤ 26
  pub rv_valid : grant.rv ≤ 3
  pub column_valid : (grant.column ≡ 2) ⊎ (grant.column ≡ 3)
  pub size_is : size_of grant.mcs grant.column ≡ Some grant.size

-- the 21 bits that are sent for `grant`
unfoldable pub sent_word : Grant → List Bool
sent_word grant =
    (true ∷ false ∷ []) ++ bits_of 5 (riv_of grant.start grant.blocks) ++ bits_of 5 grant.mcs ++ bits_of 3 0
    ++ (false ∷ []) ++ bits_of 2 grant.rv ++ (false ∷ nat_eq grant.column 3 ∷ false ∷ [])
