-- Grammars of fields: numbers a few bits wide, one after the other, highest bit first (ITU-T X.691, unaligned PER).
use Rattle.std.specs.Prelude.{ℕ, zero, suc, Bool, true, false, nat_eq, List, [], ◌∷◌, Option, Some, None}

-- A grammar: either the encoding is complete and stands for a value, or a field follows, which is a number with a
-- width, a minimum and a maximum. The fields after that field may depend on its number.
pub data Grammar (A : Type 0) : Type 0 where
  done : A → Grammar A
  field : (width least greatest : ℕ) → (ℕ → Grammar A) → Grammar A

-- one grammar followed by another, which may depend on the value of the first grammar
infixl 10 ◌>>=◌
unfoldable pub ◌>>=◌ : {A B : Type 0} → Grammar A → (A → Grammar B) → Grammar B
(done x) >>= f = f x
(field width least greatest next) >>= f = field width least greatest (λ n. next n >>= f)

-- ---- kinds of fields

-- a field of `width` bits with a number from `least` to `greatest` (a constrained whole number)
abbrev pub from_to : ℕ → ℕ → ℕ → Grammar ℕ
from_to width least greatest = field width least greatest done

-- one bit (a BOOLEAN, or the presence of an OPTIONAL component)
unfoldable pub flag : Grammar Bool
flag = do
  bit ← from_to 1 0 1
  done (nat_eq bit 1)

-- a component that is present only if its flag is set (OPTIONAL)
unfoldable pub if_present : {A : Type 0} → Bool → Grammar A → Grammar (Option A)
if_present false what = done None
if_present true what = do
  value ← what
  done (Some value)

-- `n` items with the grammar `each`, one after the other (the items of a SEQUENCE OF)
unfoldable pub times : {A : Type 0} → ℕ → Grammar A → Grammar (List A)
times zero each = done []
times (suc n) each = do
  first ← each
  others ← times n each
  done (first ∷ others)
