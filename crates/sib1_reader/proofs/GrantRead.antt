-- The indicator and the grant with which an attempt read its fields.
use Rattle.std.proofs.Common.{◌≡◌, ℕ, Option, Some, None, Result, Ok, Err, refl, sym}
use Rattle.lte_types.specs.declared.sib1.Sib1.{Sib1}
use Rattle.lte_types.specs.declared.sib1_reason.Sib1Reason.{Sib1Reason}
use Rattle.dci.specs.declared.grant.Grant.{Grant}
use Rattle.sib1_reader.specs.declared.reading.Attempt.{Attempt}
use Rattle.sib1_reader.specs.Subframe.{Subframe}
use Rattle.sib1_reader.specs.Attempt.{Follows, granted_with}

-- the attempt read fields, with this indicator and this grant
pub record HasRead (attempt : Attempt) (decoded : ℕ × Grant) : Type 0 where
  pub fields : Sib1
  pub is : attempt ≡ record { cfi = decoded.0; grant = Some decoded.1; answer = Ok fields }

pub has_read : (i : ℕ) (g : Option Grant) (a : Result Sib1 Sib1Reason) (decoded : ℕ × Grant) → granted_with i g a ≡ Some decoded →
    HasRead (record { cfi = i; grant = g; answer = a }) decoded
has_read i (Some g) (Ok fields) decoded e = let same : (i, g) ≡ decoded = cc in record { fields = fields; is = rw (sym same) refl }
has_read i (Some g) (Err reason) decoded e = absurd cc
has_read i None (Ok fields) decoded e = absurd cc
has_read i None (Err reason) decoded e = absurd cc

-- an attempt without an indicator and a grant read no fields
pub none_read : (values : Subframe) (i : ℕ) (g : Option Grant) (a : Result Sib1 Sib1Reason) (fields : Sib1) → Follows values i g a →
    granted_with i g a ≡ None → a ≡ Ok fields → ⊥
none_read values i (Some g) (Ok decoded) fields follows e same = absurd cc
none_read values i (Some g) (Err reason) fields follows e same = absurd cc
none_read values i None (Ok decoded) fields follows e same = follows
none_read values i None (Err reason) fields follows e same = absurd cc
