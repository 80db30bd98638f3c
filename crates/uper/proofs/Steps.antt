-- A reader follows a grammar: a field, one part after another, and lists in a loop.
use Rattle.std.proofs.Common.{◌≡◌, ℕ, suc, ◌+◌, ◌-◌, ◌<◌, ◌≤◌, Bool, true, false, cond, ltb, leb, ◌&&◌, List, [], ◌∷◌, ◌++◌, append_assoc, length, Result, Ok, Err, refl, ap, ap₂, sym, subst, ◌∙◌, arith}
use Rattle.std.specs.Prelude.{slice_range, IsErrAnd, ◌↔◌}
use Rattle.std.proofs.lemmas.Bool.{lt-ltb, le-ltb}
use Rattle.std.proofs.lemmas.List.{append-nil}
use Rattle.std.proofs.lemmas.Result.{err_from_is_err_and}
use Rattle.cs_bits.specs.Numbers.{number}
use Rattle.uper.specs.Cursor.{Cursor}
use Rattle.uper.specs.Grammar.{Grammar, done, ◌>>=◌, from_to, times}
use Rattle.uper.specs.Reading.{and_then, reading, Reads}
use Rattle.uper.proofs.Reading.{reading_bind, reads_bind, fails_bind}

cursor_is : (a b : Cursor) → a.bits ≡ b.bits → a.place ≡ b.place → a ≡ b
cursor_is a b e f = ap₂ (λ bits place. let c : Cursor = record { bits = bits; place = place } in c) e f

abbrev as_tested : Bool → Bool → ℕ → Cursor → Cursor → Result (ℕ × Cursor) ℕ
as_tested cut within n at to = and_then {A = ℕ × Cursor} {B = ℕ × Cursor} (cond cut (Err at.place) (cond within (Ok (n, to)) (Err at.place))) (λ x. Ok (x.0, x.1))

read_is : (width least greatest n : ℕ) (at : Cursor) → n ≡ number (slice_range at.bits at.place (at.place + width)) →
    reading (from_to width least greatest) at ≡ as_tested (ltb (length at.bits) (at.place + width)) (leb least n && leb n greatest) n at (record { bits = at.bits; place = at.place + width })
unfolding reading
read_is width least greatest n at e =
    ap (λ m. as_tested (ltb (length at.bits) (at.place + width)) (leb least m && leb m greatest) m at (record { bits = at.bits; place = at.place + width })) (sym e)

pub read_within : (width least greatest n : ℕ) (at new : Cursor) → (length at.bits < at.place + width → ⊥) → n ≡ number (slice_range at.bits at.place (at.place + width))
    → new.bits ≡ at.bits → new.place ≡ at.place + width → (leb least n && leb n greatest) ≡ true → reading (from_to width least greatest) at ≡ Ok (n, new)
read_within width least greatest n at new enough is bits place within =
    read_is width least greatest n at is
    ∙ ap₂ (λ cut within. as_tested cut within n at (record { bits = at.bits; place = at.place + width })) (le-ltb _ _ (omega (arith, enough))) within
    ∙ ap (λ (c : Cursor). Ok (n, c)) (sym (cursor_is new (record { bits = at.bits; place = at.place + width }) bits place))

pub read_out : (width least greatest n : ℕ) (at : Cursor) (place : ℕ) → n ≡ number (slice_range at.bits at.place (at.place + width))
    → place ≡ at.place → (leb least n && leb n greatest) ≡ false → reading (from_to width least greatest) at ≡ Err place
read_out width least greatest n at place is e within =
    read_is width least greatest n at is
    ∙ ap (λ within. as_tested (ltb (length at.bits) (at.place + width)) within n at (record { bits = at.bits; place = at.place + width })) within
    ∙ either (ltb (length at.bits) (at.place + width))
    ∙ ap (λ (p : ℕ). Err p) (sym e)
  where
    either : (cut : Bool) → as_tested cut false n at (record { bits = at.bits; place = at.place + width }) ≡ Err at.place
    either true = refl
    either false = refl

pub read_cut : (width least greatest : ℕ) (at : Cursor) (place : ℕ) → length at.bits < at.place + width → place ≡ at.place → reading (from_to width least greatest) at ≡ Err place
read_cut width least greatest at place cut e =
    let n = number (slice_range at.bits at.place (at.place + width)) in
    read_is width least greatest n at refl
    ∙ ap (λ cut. as_tested cut (leb least n && leb n greatest) n at (record { bits = at.bits; place = at.place + width })) (lt-ltb _ _ cut)
    ∙ ap (λ (p : ℕ). Err p) (sym e)

-- the error that is returned when a field is refused
pub exit : {A : Type 0} (t : Grammar A) (old new : Cursor) (r : Result A ℕ) (place : ℕ) → IsErrAnd r (λ e. e ≡ place) → reading t old ≡ Err place → Reads t old r new
exit t old new r place is h =
    let p = err_from_is_err_and r is in
    subst (λ x. Reads t old x new) (sym p.1) (h ∙ ap (λ (p : ℕ). Err p) (sym p.2))

pub reads_done : {A : Type 0} (x : A) (at : Cursor) → reading (done x) at ≡ Ok (x, at)
unfolding reading
reads_done x at = refl

-- ---- repeated items, in a loop

-- the items already read, followed by those still to be read
abbrev pub with_front : {A : Type 0} → List A → Result (List A × Cursor) ℕ → Result (List A × Cursor) ℕ
with_front {A} front read = and_then {A = List A × Cursor} {B = List A × Cursor} read (λ x. Ok (front ++ x.0, x.1))

pub no_front : {A : Type 0} (read : Result (List A × Cursor) ℕ) → with_front [] read ≡ read
no_front (Ok x) = refl
no_front (Err place) = refl

one_more : {A : Type 0} (front : List A) (x : A) (read : Result (List A × Cursor) ℕ) → with_front front (and_then read (λ y. Ok (x ∷ y.0, y.1))) ≡ with_front (front ++ x ∷ []) read
one_more front x (Ok y) = ap (λ xs. Ok (xs, y.1)) (sym (append_assoc front (x ∷ []) y.0))
one_more front x (Err place) = refl

times_suc : {A : Type 0} (n : ℕ) (each : Grammar A) (at mid : Cursor) (x : A) → reading each at ≡ Ok (x, mid)
    → reading (times (suc n) each) at ≡ and_then (reading (times n each) mid) (λ y. Ok (x ∷ y.0, y.1))
unfolding times reading
times_suc n each at mid x e = reads_bind _ _ _ _ _ _ e (reading_bind (times n each) (λ others. done (x ∷ others)) mid)

pub loop_more : {A : Type 0} (each : Grammar A) (front : List A) (n i : ℕ) (at mid : Cursor) (x : A) (total : Result (List A × Cursor) ℕ) → i < n → reading each at ≡ Ok (x, mid)
    → with_front front (reading (times (n - i) each) at) ≡ total → with_front (front ++ x ∷ []) (reading (times (n - (i + 1)) each) mid) ≡ total
loop_more each front n i at mid x total below read so_far =
    let k : n - i ≡ suc (n - (i + 1)) = omega (arith, below) in
    sym (ap (λ k. with_front front (reading (times k each) at)) k
    ∙ ap (λ r. with_front front r) (times_suc (n - (i + 1)) each at mid x read)
    ∙ one_more front x (reading (times (n - (i + 1)) each) mid)) ∙ so_far

pub times_err : {A : Type 0} (n : ℕ) (each : Grammar A) (at : Cursor) (place : ℕ) → reading each at ≡ Err place → reading (times (suc n) each) at ≡ Err place
unfolding times
times_err n each at place e = fails_bind _ _ _ _ e

pub loop_err : {A : Type 0} (each : Grammar A) (front : List A) (n i : ℕ) (at : Cursor) (place : ℕ) (total : Result (List A × Cursor) ℕ) → i < n → reading each at ≡ Err place
    → with_front front (reading (times (n - i) each) at) ≡ total → total ≡ Err place
loop_err each front n i at place total below read so_far =
    let k : n - i ≡ suc (n - (i + 1)) = omega (arith, below) in
    sym so_far
    ∙ ap (λ k. with_front front (reading (times k each) at)) k
    ∙ ap (λ r. with_front front r) (times_err (n - (i + 1)) each at place read)

pub times_zero : {A : Type 0} (each : Grammar A) (at : Cursor) → reading (times 0 each) at ≡ Ok ([], at)
unfolding times reading
times_zero each at = refl

pub loop_done : {A : Type 0} (each : Grammar A) (front : List A) (n i : ℕ) (at : Cursor) (total : Result (List A × Cursor) ℕ) → n ≤ i
    → with_front front (reading (times (n - i) each) at) ≡ total → total ≡ Ok (front, at)
loop_done each front n i at total past so_far =
    let k : n - i ≡ 0 = omega (arith, past) in
    sym so_far
    ∙ ap (λ k. with_front front (reading (times k each) at)) k
    ∙ ap (λ r. with_front front r) (times_zero each at)
    ∙ ap (λ xs. Ok (xs, at)) (append-nil front)

-- a list after its first item
pub after_first : {A : Type 0} (n : ℕ) (each : Grammar A) (first : A) (at : Cursor) → reading (times n each >>= (λ others. done (first ∷ others))) at ≡ with_front (first ∷ []) (reading (times n each) at)
unfolding reading
after_first n each first at = reading_bind (times n each) (λ others. done (first ∷ others)) at

-- an item was pushed because there was room
pub pushed : {A : Type 0} (old new : List A) (x : A) (did : Bool) (room : ℕ) → ((did ≡ true) ↔ (length old < room)) → length old < room → new ≡ cond did (old ++ x ∷ []) old → new ≡ old ++ x ∷ []
pushed old new x did room iff short is = is ∙ ap (λ did. cond did (old ++ x ∷ []) old) (iff.1 short)

pub times_ok : {A : Type 0} (n : ℕ) (each : Grammar A) (at mid to : Cursor) (x : A) (xs : List A) → reading each at ≡ Ok (x, mid) → reading (times n each) mid ≡ Ok (xs, to)
    → reading (times (suc n) each) at ≡ Ok (x ∷ xs, to)
unfolding times
times_ok n each at mid to x xs first others = reads_bind _ _ _ _ _ _ first (reads_bind _ _ _ _ _ _ others (reads_done _ _))

pub times_later : {A : Type 0} (n : ℕ) (each : Grammar A) (at mid : Cursor) (x : A) (place : ℕ) → reading each at ≡ Ok (x, mid) → reading (times n each) mid ≡ Err place
    → reading (times (suc n) each) at ≡ Err place
unfolding times
times_later n each at mid x place first others = reads_bind _ _ _ _ _ _ first (fails_bind _ _ _ _ others)

-- the result of the rest is returned unchanged
pub reads_then : {A B : Type 0} (t : Grammar A) (f : A → Grammar B) (at mid new : Cursor) (x : A) (r : Result B ℕ) → reading t at ≡ Ok (x, mid) → Reads (f x) mid r new → Reads (t >>= f) at r new
reads_then t f at mid new x (Ok y) first after = reads_bind t f at mid x _ first after
reads_then t f at mid new x (Err place) first after = reads_bind t f at mid x _ first after
