-- The numbers in published preconditions, stated again here without the definitions of the called crates.
use Rattle.std.specs.Prelude.{ℕ, ◌≤◌, ℤ, nat_abs, nat_eq, if◌then◌else◌, List, [], ◌∷◌, All, IfSome}
use Rattle.cs_num.specs.declared.Cpx.{Cpx}
use Rattle.lte_types.specs.declared.mnc.Mnc.{Mnc}
use Rattle.lte_types.specs.declared.mnc.Mnc.TheVariants.{Two, Three}
use Rattle.lte_types.specs.declared.plmn.Plmn.{Plmn}
use Rattle.lte_types.specs.declared.si_message.SiMessage.{SiMessage}

-- transport block sizes up to 1,000 bits by MCS index, in the column for two resource blocks (TS 36.213 table
-- 7.1.7.2.1-1; the limit of 1,000 bits is our own)
unfoldable pub sizes_of_two : List ℕ
sizes_of_two =
    32 ∷ 56 ∷ 72 ∷ 104 ∷ 120 ∷ 144 ∷ 176 ∷ 224 ∷ 256 ∷ 296 ∷ 328 ∷ 376 ∷ 440 ∷ 488 ∷ 552 ∷ 600 ∷ 632 ∷ 696 ∷ 776 ∷
    840 ∷ 904 ∷ 1000 ∷ []

-- transport block sizes up to 1,000 bits by MCS index, in the column for three resource blocks (TS 36.213 table
-- 7.1.7.2.1-1; the limit of 1,000 bits is our own)
unfoldable pub sizes_of_three : List ℕ
sizes_of_three =
    56 ∷ 88 ∷ 144 ∷ 176 ∷ 208 ∷ 224 ∷ 256 ∷ 328 ∷ 392 ∷ 456 ∷ 504 ∷ 584 ∷ 680 ∷ 744 ∷ 840 ∷ 904 ∷ 968 ∷ []

-- the transport block sizes in column 2 or 3, by MCS index
abbrev pub sizes_of : ℕ → List ℕ
sizes_of column = if nat_eq column 2 then sizes_of_two else sizes_of_three

-- `z` is at most `bound` in magnitude
abbrev pub IsAtMost : ℕ → ℤ → Type 0
IsAtMost bound z = nat_abs z ≤ bound

-- both components of `z` are at most `bound` in magnitude
abbrev pub IsUpTo : ℕ → Cpx → Type 0
IsUpTo bound z = (nat_abs z.re ≤ bound) × (nat_abs z.im ≤ bound)

-- the digits of a mobile network code
abbrev pub digits_of : Mnc → List ℕ
digits_of (Two digits) = digits
digits_of (Three digits) = digits

-- the digits of a PLMN identity are 0 to 9
abbrev pub HasDecimalDigits : Plmn → Type 0
HasDecimalDigits plmn = IfSome plmn.mcc (All (λ digit. digit ≤ 9)) × All (λ digit. digit ≤ 9) (digits_of plmn.mnc)

-- the period code of a scheduling entry is at most 6 (rf512), and its SIB codes are at most 79
abbrev pub HasSmallCodes : SiMessage → Type 0
HasSmallCodes message = (message.period ≤ 6) × All (λ code. code ≤ 79) message.sibs
