-- If the values that pass a test have only one encoding, it is the first.
use Rattle.std.proofs.Common.{◌≡◌, ℕ, zero, suc, ◌^◌, ◌<◌, ◌≤◌, ◌⊎◌, inl, inr, Bool, true, false, ◌&&◌, nat_le, if◌then◌else◌, List, [], ◌∷◌, ◌++◌, length, take, drop, Option, Some, None, refl, ap, sym, subst, ◌∙◌, arith}
use Rattle.std.specs.Option.{option_map, option_or}
use Rattle.std.proofs.lemmas.Bool.{le-leb, lt-leb, cases_lt}
use Rattle.std.proofs.lemmas.List.{take_at, drop_at}
use Rattle.cs_bits.specs.Numbers.{number, bits_of}
use Rattle.cs_bits.proofs.Numbers.{number_below, number_of_bits, length-bits_of, bits_of_is}
use Rattle.uper.specs.Grammar.{Grammar, done, field}
use Rattle.uper.specs.Texts.{Begins, IsText, first_some, after_field, first_text}

-- ---- the first of n options

pub none_before : {A : Type 0} (n : ℕ) (f : ℕ → Option A) → ((j : ℕ) → j < n → f j ≡ None) → first_some n f ≡ None
unfolding first_some
none_before zero f h = refl
none_before (suc n) f h = rw (none_before n f (λ j l. h j (omega (arith, l))), h n (omega arith)) refl

pub first_some_is : {A : Type 0} (n i : ℕ) (f : ℕ → Option A) (v : A) → i < n → f i ≡ Some v → ((j : ℕ) → j < i → f j ≡ None) → first_some n f ≡ Some v
unfolding first_some
first_some_is zero i f v l e h = absurd (omega (arith, l))
first_some_is (suc n) i f v l e h = by (λ before. first_some_is n i f v before e h) (cases_lt i n)
  where
    by : (i < n → first_some n f ≡ Some v) → (i < n) ⊎ (n ≤ i) → option_or (first_some n f) (f n) ≡ Some v
    by again (inl before) = rw (again before) refl
    by again (inr last) =
        let same : i ≡ n = omega (arith, l, last) in
        rw (none_before n f (λ j k. h j (omega (arith, k, last)))) (ap f (sym same) ∙ e)

-- a value that is found is one of the options
pub record Found {A : Type 0} (n : ℕ) (f : ℕ → Option A) (v : A) : Type 0 where
  pub at : ℕ
  pub inside : at < n
  pub is : f at ≡ Some v

pub first_some_found : {A : Type 0} (n : ℕ) (f : ℕ → Option A) (v : A) → first_some n f ≡ Some v → Found n f v
unfolding first_some
first_some_found zero f v e = absurd cc
first_some_found {A} (suc n) f v e = by (λ h. first_some_found n f v h) (first_some n f) refl
  where
    by : (first_some n f ≡ Some v → Found n f v) → (o : Option A) → first_some n f ≡ o → Found (suc n) f v
    by again None h = record { at = n; inside = omega arith; is = sym (ap (λ o. option_or o (f n)) h) ∙ e }
    by again (Some w) h =
        let same : Some w ≡ Some v = sym (ap (λ o. option_or o (f n)) h) ∙ e in
        let before = again (h ∙ same) in
        let l = before.inside in
        record { at = before.at; inside = omega (arith, l); is = before.is }

-- ---- an encoding that is found is valid, and its value passes the test

pub record Passes {A : Type 0} (test : A → Bool) (grammar : Grammar A) (text : List Bool) : Type 0 where
  pub value : A
  pub is_text : IsText grammar text value
  pub passes : test value ≡ true

-- an encoding that begins with a field, in parts
record Parts (width least greatest n : ℕ) (rest : Option (List Bool)) (text : List Bool) : Type 0 where
  bits : List Bool
  above : least ≤ n
  below : n ≤ greatest
  there : rest ≡ Some bits
  is : text ≡ bits_of width n ++ bits

under_is_none : (width least greatest n : ℕ) (rest : Option (List Bool)) → n < least → after_field width least greatest n rest ≡ None
under_is_none width least greatest n rest l = rw (lt-leb least n l) refl

over_is_none : (width least greatest n : ℕ) (rest : Option (List Bool)) → least ≤ n → greatest < n → after_field width least greatest n rest ≡ None
over_is_none width least greatest n rest a l = rw (le-leb least n a, lt-leb n greatest l) refl

within_is : (width least greatest n : ℕ) (rest : Option (List Bool)) → least ≤ n → n ≤ greatest → after_field width least greatest n rest ≡ option_map (λ bits. bits_of width n ++ bits) rest
within_is width least greatest n rest a b = rw (le-leb least n a, le-leb n greatest b) refl

not_both : {A : Type 0} (v : A) (o : Option A) → o ≡ None → o ≡ Some v → ⊥
not_both v o e f = absurd cc

same_some : {A : Type 0} (v w : A) → Some v ≡ Some w → v ≡ w
same_some v w e = cc

parts_of : (width least greatest n : ℕ) (rest : Option (List Bool)) (text : List Bool) → after_field width least greatest n rest ≡ Some text → Parts width least greatest n rest text
parts_of width least greatest n rest text e = by (cases_lt n least) (cases_lt greatest n) rest refl
  where
    by : (n < least) ⊎ (least ≤ n) → (greatest < n) ⊎ (n ≤ greatest) → (r : Option (List Bool)) → rest ≡ r → Parts width least greatest n rest text
    by (inl under) b r h = absurd (not_both text _ (under_is_none width least greatest n rest under) e)
    by (inr a) (inl over) r h = absurd (not_both text _ (over_is_none width least greatest n rest a over) e)
    by (inr a) (inr b) None h = absurd (not_both text _ (within_is width least greatest n rest a b ∙ ap (option_map (λ bits. bits_of width n ++ bits)) h) e)
    by (inr a) (inr b) (Some bits) h = record {
      bits = bits;
      above = a;
      below = b;
      there = h;
      is = same_some text (bits_of width n ++ bits) (sym e ∙ within_is width least greatest n rest a b ∙ ap (option_map (λ bits. bits_of width n ++ bits)) h);
    }

pub first_text_passes : {A : Type 0} (test : A → Bool) (g : Grammar A) (text : List Bool) → first_text test g ≡ Some text → Passes test g text
unfolding first_text IsText
first_text_passes {A} test (done x) text e = by (test x) refl
  where
    by : (t : Bool) → test x ≡ t → Passes test (done x) text
    by true h = record { value = x; is_text = (sym (same_some [] text (sym (ap (λ t. if t then Some [] else None) h) ∙ e)), refl); passes = h }
    by false h = absurd (not_both text _ (ap (λ (t : Bool). if t then Some [] else None) h) e)
first_text_passes {A} test (field width least greatest next) text e =
    let found = first_some_found (2 ^ width) (λ n. after_field width least greatest n (first_text test (next n))) text e in
    let n = found.at in
    let p = parts_of width least greatest n (first_text test (next n)) text found.is in
    let inner = first_text_passes test (next n) p.bits p.there in
    let number_is : number (bits_of width n) ≡ n = number_of_bits width n found.inside in
    let a = p.above in
    let b = p.below in
    record {
      value = inner.value;
      is_text = (
        bits_of width n,
        (
          p.bits,
          record { parts = p.is; whole = length-bits_of width n; above = omega (arith, number_is, a); below = omega (arith, number_is, b) },
          subst (λ m. IsText (next m) p.bits inner.value) (sym number_is) inner.is_text,
        ),
      );
      passes = inner.passes;
    }

-- ---- an only encoding is the first

pub first_text_is : {A : Type 0} (test : A → Bool) (g : Grammar A) (text : List Bool) (x : A) → IsText g text x → test x ≡ true
    → ((other : List Bool) (y : A) → IsText g other y → test y ≡ true → other ≡ text) → first_text test g ≡ Some text
unfolding first_text IsText
first_text_is test (done v) text x s t only =
    rw (ap test s.1 ∙ t) (ap (λ (bits : List Bool). Some bits) (sym s.0))
first_text_is {A} test (field width least greatest next) text x s t only =
    by (first_text_is test (next (number s.0)) s.1.0 x s.1.2 t)
  where
    front : List Bool
    front = s.0

    rest : List Bool
    rest = s.1.0

    begins : Begins width least greatest text front rest
    begins = s.1.1

    n : ℕ
    n = number front

    f : ℕ → Option (List Bool)
    f m = after_field width least greatest m (first_text test (next m))

    front_is : bits_of width n ≡ front
    front_is = sym (bits_of_is width n front begins.whole refl)

    n_below : n < 2 ^ width
    n_below = subst (λ w. n < 2 ^ w) begins.whole (number_below front)

    -- a field followed by an encoding of the rest is an encoding
    whole : (m : ℕ) (bits : List Bool) (y : A) → m < 2 ^ width → least ≤ m → m ≤ greatest → IsText (next m) bits y → IsText (field width least greatest next) (bits_of width m ++ bits) y
    whole m bits y l a b r =
        let number_is : number (bits_of width m) ≡ m = number_of_bits width m l in (
          bits_of width m,
          (
            bits,
            record { parts = refl; whole = length-bits_of width m; above = omega (arith, number_is, a); below = omega (arith, number_is, b) },
            subst (λ k. IsText (next k) bits y) (sym number_is) r,
          ),
        )

    text_is : text ≡ bits_of width n ++ rest
    text_is = begins.parts ∙ ap (λ (bits : List Bool). bits ++ rest) (sym front_is)

    Only : Type 0
    Only = (other : List Bool) (y : A) → IsText (next n) other y → test y ≡ true → other ≡ rest

    only_rest : Only
    only_rest = λ other y r u.
        let e : bits_of width n ++ other ≡ bits_of width n ++ rest = only (bits_of width n ++ other) y (whole n other y n_below begins.above begins.below r) u ∙ text_is in
        sym (drop_at (bits_of width n) other width (length-bits_of width n)) ∙ ap (drop width) e ∙ drop_at (bits_of width n) rest width (length-bits_of width n)

    is_there : first_text test (next n) ≡ Some rest → f n ≡ Some text
    is_there rest_is = within_is width least greatest n (first_text test (next n)) begins.above begins.below
        ∙ ap (option_map (λ bits. bits_of width n ++ bits)) rest_is ∙ ap (λ (bits : List Bool). Some bits) (sym text_is)

    cases : (j : ℕ) → j < n → (o : Option (List Bool)) → f j ≡ o → f j ≡ None
    cases j l None h = h
    cases j l (Some other) h =
        let p = parts_of width least greatest j (first_text test (next j)) other h in
        let inner = first_text_passes test (next j) p.bits p.there in
        let below : j < 2 ^ width = let k = n_below in omega (arith, l, k) in
        let e : bits_of width j ++ p.bits ≡ bits_of width n ++ rest = only (bits_of width j ++ p.bits) inner.value (whole j p.bits inner.value below p.above p.below inner.is_text) inner.passes ∙ text_is in
        let same : bits_of width j ≡ bits_of width n = sym (take_at (bits_of width j) p.bits width (length-bits_of width j)) ∙ ap (take width) e ∙ take_at (bits_of width n) rest width (length-bits_of width n) in
        let number_same : j ≡ n = sym (number_of_bits width j below) ∙ ap number same ∙ number_of_bits width n n_below in
        absurd (omega (arith, l, number_same))

    by : (Only → first_text test (next n) ≡ Some rest) → first_some (2 ^ width) f ≡ Some text
    by again = first_some_is (2 ^ width) n f text n_below (is_there (again only_rest)) (λ j l. cases j l (f j) refl)
