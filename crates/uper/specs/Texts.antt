-- The encodings that a grammar accepts, and the bits that it refuses.
use Rattle.std.specs.Prelude.{◌≡◌, ℕ, zero, suc, ◌+◌, ◌^◌, ◌<◌, ◌≤◌, ◌⊎◌, Bool, ◌&&◌, nat_le, if◌then◌else◌, List, [], ◌++◌, length, take, Option, Some, None}
use Rattle.std.specs.Option.{option_map, option_or}
use Rattle.cs_bits.specs.Numbers.{number, bits_of}
use Rattle.uper.specs.Grammar.{Grammar, done, field}

-- `bits` begin with a field of `width` bits, `front`, whose number is from `least` to `greatest`, and continue with
-- `rest`
pub record Begins (width least greatest : ℕ) (bits front rest : List Bool) : Type 0 where
  pub parts : bits ≡ front ++ rest
  pub whole : length front ≡ width
  pub above : least ≤ number front
  pub below : number front ≤ greatest

-- `bits` are an encoding of `value`
unfoldable pub IsText : {A : Type 0} → Grammar A → List Bool → A → Type 0
IsText (done x) bits value = (bits ≡ []) × (x ≡ value)
IsText (field width least greatest next) bits value =
    (front : List Bool) × ((rest : List Bool) ×
    Begins width least greatest bits front rest × IsText (next (number front)) rest value)

-- `bits` begin with an encoding of `value`; later bits are ignored
pub record BeginsWith {A : Type 0} (grammar : Grammar A) (bits : List Bool) (value : A) : Type 0 where
  pub text : List Bool
  pub rest : List Bool
  pub parts : bits ≡ text ++ rest
  pub is_text : IsText grammar text value

-- the field at the front of `bits` is cut off, or its number is out of range
abbrev pub IsBad : ℕ → ℕ → ℕ → List Bool → Type 0
IsBad width least greatest bits =
    (length bits < width)
    ⊎ ((width ≤ length bits) × ((number (take width bits) < least) ⊎ (greatest < number (take width bits))))

-- the first field in `bits` that is cut off or out of range begins at position `place`
unfoldable pub Refuses : {A : Type 0} → Grammar A → List Bool → ℕ → Type 0
Refuses (done x) bits place = ⊥
Refuses (field width least greatest next) bits place =
    (IsBad width least greatest bits × (place ≡ 0))
    ⊎ ((front : List Bool) × ((rest : List Bool) × ((after : ℕ) ×
    Begins width least greatest bits front rest × (place ≡ width + after) × Refuses (next (number front)) rest after)))

-- ---- the encoding of a value, found among all encodings (own)

-- the first of f 0, .., f (n - 1) that is not None, or None if there is none
unfoldable pub first_some : {A : Type 0} → ℕ → (ℕ → Option A) → Option A
first_some zero f = None
first_some (suc n) f = option_or (first_some n f) (f n)

-- the bits of a field with the number `n` in front of `rest`, the encoding of the fields after it; None if `n` is out
-- of range
abbrev pub after_field : ℕ → ℕ → ℕ → ℕ → Option (List Bool) → Option (List Bool)
after_field width least greatest n rest =
    if nat_le least n && nat_le n greatest then option_map (λ bits. bits_of width n ++ bits) rest else None

-- the first encoding in a grammar whose value passes `test`, in the order of the fields' numbers
unfoldable pub first_text : {A : Type 0} → (A → Bool) → Grammar A → Option (List Bool)
first_text test (done x) = if test x then Some [] else None
first_text test (field width least greatest next) =
    first_some (2 ^ width) (λ n. after_field width least greatest n (first_text test (next n)))
