-- The decoding of bits as SystemInformationBlockType1.
use Rattle.std.specs.Prelude.{◌≡◌, Bool, true, false, List, [], ◌∷◌, length, ◌≤◌, ◌↔◌, if◌then◌else◌, Result, Ok, Err}
use Rattle.lte_types.specs.declared.sib1.Sib1.{Sib1}
use Rattle.lte_types.specs.declared.sib1_reason.Sib1Reason.{Sib1Reason}
use Rattle.lte_types.specs.declared.sib1_reason.Sib1Reason.TheVariants.{NotSib1, BadFields}
use Rattle.uper.specs.Texts.{IsText, BeginsWith, Refuses}
use Rattle.sib1.specs.Layout.{sib1}

-- `bits` begin with 0 and 1, which identify SystemInformationBlockType1
pub record IsSib1 (bits : List Bool) : Type 0 where
  pub rest : List Bool
  pub begins : bits ≡ false ∷ true ∷ rest

-- `bits` are refused for a reason: they are not a SIB1, or the first bad field begins at bit `place`
abbrev pub IsRefused : List Bool → Sib1Reason → Type 0
IsRefused bits NotSib1 = IsSib1 bits → ⊥
IsRefused bits (BadFields place) = IsSib1 bits × Refuses sib1 bits place
IsRefused bits _ = ⊥

-- `bits` begin with an encoding of `fields`, whatever follows, or they are refused for `reason`
abbrev pub Says : List Bool → Result Sib1 Sib1Reason → Type 0
Says bits (Ok fields) = BeginsWith sib1 bits fields
Says bits (Err reason) = IsRefused bits reason

-- `bits` are the encoding of `fields`; if the encoding has more than 1,000 bits, `did` is false and there are no bits
pub record Writes (fields : Sib1) (did : Bool) (bits : List Bool) : Type 0 where
  pub text : List Bool
  pub is_text : IsText sib1 text fields
  pub room : (did ≡ true) ↔ (length text ≤ 1000)
  pub written : bits ≡ (if did then text else [])
