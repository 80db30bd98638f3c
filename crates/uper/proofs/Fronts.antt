-- Bits begin with one encoding, or are refused at one position.
use Rattle.std.proofs.Common.{◌≡◌, ℕ, ◌+◌, inl, inr, Bool, List, [], ◌∷◌, ◌++◌, length, Result, Ok, Err, refl, ap, ap₂, sym, subst, ◌∙◌, arith}
use Rattle.std.proofs.lemmas.List.{append-nil, length-append}
use Rattle.uper.specs.Cursor.{Cursor}
use Rattle.uper.specs.Grammar.{Grammar}
use Rattle.uper.specs.Texts.{IsText, BeginsWith, Refuses}
use Rattle.uper.specs.Reading.{reading}
use Rattle.uper.proofs.Reading.{past, read_cases, text_is_read, refusal_is_read}

abbrev start : List Bool → Cursor
start bits = record { bits = bits; place = 0 }

start_is : (bits : List Bool) (at : Cursor) → at.bits ≡ bits → at.place ≡ 0 → at ≡ start bits
start_is bits at e f = ap₂ (λ bits place. let c : Cursor = record { bits = bits; place = place } in c) e f

-- ---- a reading has one result

value_of : {A : Type 0} → A → Result (A × Cursor) ℕ → A
value_of x (Ok y) = y.0
value_of x (Err p) = x

cursor_of : {A : Type 0} → Cursor → Result (A × Cursor) ℕ → Cursor
cursor_of c (Ok y) = y.1
cursor_of c (Err p) = c

place_of : {A : Type 0} → Result (A × Cursor) ℕ → ℕ
place_of (Ok y) = 0
place_of (Err p) = p

same_value : {A : Type 0} (x y : A) (a b : Cursor) (r : Result (A × Cursor) ℕ) → r ≡ Ok (x, a) → r ≡ Ok (y, b) → x ≡ y
unfolding value_of
same_value x y a b r e f = ap (value_of x) (sym e ∙ f)

same_cursor : {A : Type 0} (x y : A) (a b : Cursor) (r : Result (A × Cursor) ℕ) → r ≡ Ok (x, a) → r ≡ Ok (y, b) → a ≡ b
unfolding cursor_of
same_cursor x y a b r e f = ap (cursor_of a) (sym e ∙ f)

same_place : {A : Type 0} (p q : ℕ) (r : Result (A × Cursor) ℕ) → r ≡ Err p → r ≡ Err q → p ≡ q
unfolding place_of
same_place p q r e f = ap place_of (sym e ∙ f)

not_ok_and_err : {A : Type 0} (x : A × Cursor) (p : ℕ) (r : Result (A × Cursor) ℕ) → r ≡ Ok x → r ≡ Err p → ⊥
not_ok_and_err x p r e f = absurd cc

-- ---- reading from the first bit

pub begins_with : {A : Type 0} (t : Grammar A) (bits : List Bool) (at new : Cursor) (x : A) → at.bits ≡ bits → at.place ≡ 0 → reading t at ≡ Ok (x, new) → BeginsWith t bits x
begins_with t bits at new x e f read =
    let from_start : reading t (start bits) ≡ Ok (x, new) = ap (reading t) (sym (start_is bits at e f)) ∙ read in
    elim (read_cases t (start bits) (omega arith)) [
      | inl found ↦
          let same : found.value ≡ x = same_value found.value x _ new (reading t (start bits)) found.read from_start in
          record { text = found.text; rest = found.rest; parts = found.parts; is_text = subst (λ v. IsText t found.text v) same found.is_text }
      | inr none ↦ absurd (not_ok_and_err (x, new) _ (reading t (start bits)) from_start none.read)
    ]

pub refuses_at : {A : Type 0} (t : Grammar A) (bits : List Bool) (at : Cursor) (place : ℕ) → at.bits ≡ bits → at.place ≡ 0 → reading t at ≡ Err place → Refuses t bits place
refuses_at t bits at place e f read =
    let from_start : reading t (start bits) ≡ Err place = ap (reading t) (sym (start_is bits at e f)) ∙ read in
    elim (read_cases t (start bits) (omega arith)) [
      | inl found ↦ absurd (not_ok_and_err _ place (reading t (start bits)) found.read from_start)
      | inr none ↦
          let same : 0 + none.after ≡ place = same_place (0 + none.after) place (reading t (start bits)) none.read from_start in
          subst (λ p. Refuses t bits p) (omega (arith, same)) none.refuses
    ]

-- ---- uniqueness

is_read : {A : Type 0} (t : Grammar A) (bits : List Bool) (x : A) (b : BeginsWith t bits x) → reading t (start bits) ≡ Ok (x, past (start bits) (length b.text))
is_read t bits x b = text_is_read t (start bits) b.text b.rest x (omega arith) b.parts b.is_text

is_refused : {A : Type 0} (t : Grammar A) (bits : List Bool) (place : ℕ) → Refuses t bits place → reading t (start bits) ≡ Err (0 + place)
is_refused t bits place r = refusal_is_read t (start bits) place (omega arith) r

pub one_value : {A : Type 0} (t : Grammar A) (bits : List Bool) (x y : A) → BeginsWith t bits x → BeginsWith t bits y → x ≡ y
one_value t bits x y a b = same_value x y _ _ (reading t (start bits)) (is_read t bits x a) (is_read t bits y b)

pub one_place : {A : Type 0} (t : Grammar A) (bits : List Bool) (p q : ℕ) → Refuses t bits p → Refuses t bits q → p ≡ q
one_place t bits p q r s =
    let same : 0 + p ≡ 0 + q = same_place (0 + p) (0 + q) (reading t (start bits)) (is_refused t bits p r) (is_refused t bits q s) in omega (arith, same)

pub text_or_refusal : {A : Type 0} (t : Grammar A) (bits : List Bool) (x : A) (p : ℕ) → BeginsWith t bits x → Refuses t bits p → ⊥
text_or_refusal t bits x p b r = not_ok_and_err _ _ (reading t (start bits)) (is_read t bits x b) (is_refused t bits p r)

empty_of : (bits : List Bool) → length bits ≡ 0 → bits ≡ []
empty_of [] e = refl
empty_of (b ∷ bs) e = absurd (omega (arith, e))

-- no encoding is a prefix of another
pub no_front : {A : Type 0} (t : Grammar A) (text more : List Bool) (x y : A) → IsText t text x → IsText t (text ++ more) y → (more ≡ []) × (y ≡ x)
no_front t text more x y s r =
    let first = text_is_read t (start (text ++ more)) text more x (omega arith) refl s in
    let second = text_is_read t (start (text ++ more)) (text ++ more) [] y (omega arith) (sym (append-nil (text ++ more))) r in
    let place : 0 + length text ≡ 0 + length (text ++ more) = ap (λ (c : Cursor). c.place) (same_cursor x y _ _ (reading t (start (text ++ more))) first second) in
    let parts = length-append text more in
    (empty_of more (omega (arith, place, parts)), same_value y x _ _ (reading t (start (text ++ more))) second first)
