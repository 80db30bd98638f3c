-- Each list of bits begins with an encoding of one value, or is refused at one position.
use Rattle.std.proofs.Common.{◌≡◌, ℕ, ◌+◌, ◌-◌, ◌<◌, ◌≤◌, ◌⊎◌, inl, inr, Bool, cond, ltb, leb, ◌&&◌, List, [], ◌++◌, length, take, drop, Result, Ok, Err, refl, ap, ap₂, sym, subst, ◌∙◌, append_assoc, arith, length-drop}
use Rattle.std.proofs.lemmas.Bool.{cases_lt, lt-ltb, le-ltb, le-leb, lt-leb, and_from, and_left, and_right}
use Rattle.std.proofs.lemmas.List.{drop_at, drop-drop, take-append-drop, length-take-le, length-append}
use Rattle.cs_bits.specs.Numbers.{number}
use Rattle.uper.specs.Cursor.{Cursor}
use Rattle.uper.specs.Grammar.{Grammar, done, field, ◌>>=◌}
use Rattle.uper.specs.Texts.{Begins, IsText, IsBad, Refuses}
use Rattle.uper.specs.Reading.{field_at, and_then, reading}
use Rattle.uper.proofs.Texts.{text_done, begins-append, same_front, not_both}

-- ---- one grammar followed by another

after_field : {A B : Type 0} (r : Result (ℕ × Cursor) ℕ) (next : ℕ → Grammar A) (f : A → Grammar B) →
    ((n : ℕ) (at : Cursor) → reading (next n >>= f) at ≡ and_then (reading (next n) at) (λ x. reading (f x.0) x.1)) →
    and_then r (λ x. reading (next x.0 >>= f) x.1) ≡ and_then (and_then r (λ x. reading (next x.0) x.1)) (λ x. reading (f x.0) x.1)
after_field (Ok x) next f each = each x.0 x.1
after_field (Err place) next f each = refl

pub reading_bind : {A B : Type 0} (t : Grammar A) (f : A → Grammar B) (at : Cursor) →
    reading (t >>= f) at ≡ and_then (reading t at) (λ x. reading (f x.0) x.1)
unfolding reading ◌>>=◌
reading_bind (done x) f at = refl
reading_bind (field width least greatest next) f at =
    after_field (field_at width least greatest at) next f (λ n to. reading_bind (next n) f to)

-- the result of one reading followed by another
pub reads_bind : {A B : Type 0} (t : Grammar A) (f : A → Grammar B) (at mid : Cursor) (x : A) (r : Result (B × Cursor) ℕ) →
    reading t at ≡ Ok (x, mid) → reading (f x) mid ≡ r → reading (t >>= f) at ≡ r
reads_bind t f at mid x r first second =
    reading_bind t f at ∙ ap (λ (y : Result _ ℕ). and_then y (λ x. reading (f x.0) x.1)) first ∙ second

pub fails_bind : {A B : Type 0} (t : Grammar A) (f : A → Grammar B) (at : Cursor) (place : ℕ) →
    reading t at ≡ Err place → reading (t >>= f) at ≡ Err place
fails_bind t f at place first =
    reading_bind t f at ∙ ap (λ (y : Result _ ℕ). and_then y (λ x. reading (f x.0) x.1)) first

-- ---- one field

abbrev pub past : Cursor → ℕ → Cursor
past at n = record { bits = at.bits; place = at.place + n }

abbrev pub left : Cursor → List Bool
left at = drop at.place at.bits

pub record IsField (width least greatest : ℕ) (at : Cursor) : Type 0 where
  pub front : List Bool
  pub rest : List Bool
  pub begins : Begins width least greatest (left at) front rest
  pub read : field_at width least greatest at ≡ Ok (number front, past at width)

pub record IsNoField (width least greatest : ℕ) (at : Cursor) : Type 0 where
  pub bad : IsBad width least greatest (left at)
  pub refused : field_at width least greatest at ≡ Err at.place

abbrev tested : Bool → Bool → ℕ → ℕ → Cursor → Result (ℕ × Cursor) ℕ
tested cut inside n width at = cond cut (Err at.place) (cond inside (Ok (n, past at width)) (Err at.place))

field_is : (width least greatest : ℕ) (at : Cursor) → let front = take width (left at) in
    field_at width least greatest at ≡ tested (ltb (length at.bits) (at.place + width)) (leb least (number front) && leb (number front) greatest) (number front) width at
field_is width least greatest at =
    let e : at.place + width - at.place ≡ width = omega arith in
    ap (λ n. let front = take n (left at) in tested (ltb (length at.bits) (at.place + width)) (leb least (number front) && leb (number front) greatest) (number front) width at) e

pub field_cases : (width least greatest : ℕ) (at : Cursor) → at.place ≤ length at.bits → IsField width least greatest at ⊎ IsNoField width least greatest at
field_cases width least greatest at inside = by_length (cases_lt (length at.bits) (at.place + width))
  where
    front : List Bool
    front = take width (left at)

    is : field_at width least greatest at ≡ tested (ltb (length at.bits) (at.place + width)) (leb least (number front) && leb (number front) greatest) (number front) width at
    is = field_is width least greatest at

    long : length (left at) ≡ length at.bits - at.place
    long = length-drop at.place at.bits

    whole : at.place + width ≤ length at.bits → length front ≡ width
    whole enough = length-take-le width (left at) (let l = long in omega (arith, l, enough))

    by_greatest : at.place + width ≤ length at.bits → least ≤ number front → (greatest < number front) ⊎ (number front ≤ greatest) → IsField width least greatest at ⊎ IsNoField width least greatest at
    by_greatest enough above (inl over) = inr (record {
      bad = inr (let l = long in omega (arith, l, enough), inr over);
      refused = is ∙ ap₂ (λ cut within. tested cut within (number front) width at) (le-ltb _ _ enough) (and_right _ _ (lt-leb _ _ over));
    })
    by_greatest enough above (inr below) = inl (record {
      front = front;
      rest = drop width (left at);
      begins = record { parts = sym (take-append-drop width (left at)); whole = whole enough; above = above; below = below };
      read = is ∙ ap₂ (λ cut within. tested cut within (number front) width at) (le-ltb _ _ enough) (and_from _ _ (le-leb _ _ above) (le-leb _ _ below));
    })

    by_least : at.place + width ≤ length at.bits → (number front < least) ⊎ (least ≤ number front) → IsField width least greatest at ⊎ IsNoField width least greatest at
    by_least enough (inl under) = inr (record {
      bad = inr (let l = long in omega (arith, l, enough), inl under);
      refused = is ∙ ap₂ (λ cut within. tested cut within (number front) width at) (le-ltb _ _ enough) (and_left _ _ (lt-leb _ _ under));
    })
    by_least enough (inr above) = by_greatest enough above (cases_lt greatest (number front))

    by_length : (length at.bits < at.place + width) ⊎ (at.place + width ≤ length at.bits) → IsField width least greatest at ⊎ IsNoField width least greatest at
    by_length (inl cut) = inr (record {
      bad = inl (let l = long in omega (arith, l, inside, cut));
      refused = is ∙ ap (λ cut. tested cut (leb least (number front) && leb (number front) greatest) (number front) width at) (lt-ltb _ _ cut);
    })
    by_length (inr enough) = by_least enough (cases_lt (number front) least)

-- ---- an encoding, or a refusal

pub record TextIsAt {A : Type 0} (t : Grammar A) (at : Cursor) : Type 0 where
  pub value : A
  pub text : List Bool
  pub rest : List Bool
  pub parts : left at ≡ text ++ rest
  pub is_text : IsText t text value
  pub read : reading t at ≡ Ok (value, past at (length text))

pub record NoTextIsAt {A : Type 0} (t : Grammar A) (at : Cursor) : Type 0 where
  pub after : ℕ
  pub refuses : Refuses t (left at) after
  pub read : reading t at ≡ Err (at.place + after)

past_none : (at : Cursor) → past at 0 ≡ at
past_none at = ap (λ n. let c : Cursor = record { bits = at.bits; place = n } in c) (omega arith)

past_more : (at : Cursor) (m n : ℕ) → past (past at m) n ≡ past at (m + n)
past_more at m n = ap (λ n. let c : Cursor = record { bits = at.bits; place = n } in c) (omega arith)

-- the bits that are left after a field
left_after : (width least greatest : ℕ) (at : Cursor) (front rest : List Bool) → Begins width least greatest (left at) front rest → left (past at width) ≡ rest
left_after width least greatest at front rest b =
    sym (drop-drop width at.place at.bits) ∙ ap (drop width) b.parts ∙ drop_at front rest width b.whole

inside_after : (width least greatest : ℕ) (at : Cursor) (front rest : List Bool) → at.place ≤ length at.bits → Begins width least greatest (left at) front rest → at.place + width ≤ length at.bits
inside_after width least greatest at front rest inside b =
    let whole = b.whole in
    let all = ap length b.parts in
    let parts = length-append front rest in
    let l = length-drop at.place at.bits in
    omega (arith, whole, all, parts, l, inside)

step_ok : {A : Type 0} (width least greatest : ℕ) (next : ℕ → Grammar A) (at : Cursor) (n : ℕ) (mid : Cursor) → field_at width least greatest at ≡ Ok (n, mid) → reading (field width least greatest next) at ≡ reading (next n) mid
unfolding reading
step_ok width least greatest next at n mid e = ap (λ (r : Result (ℕ × Cursor) ℕ). and_then r (λ x. reading (next x.0) x.1)) e

step_err : {A : Type 0} (width least greatest : ℕ) (next : ℕ → Grammar A) (at : Cursor) (place : ℕ) → field_at width least greatest at ≡ Err place → reading (field width least greatest next) at ≡ Err place
unfolding reading
step_err width least greatest next at place e = ap (λ (r : Result (ℕ × Cursor) ℕ). and_then r (λ x. reading (next x.0) x.1)) e

done_read : {A : Type 0} (x : A) (at : Cursor) → reading (done x) at ≡ Ok (x, past at 0)
unfolding reading
done_read x at = ap (λ (c : Cursor). Ok (x, c)) (sym (past_none at))

field_text : {A : Type 0} (width least greatest : ℕ) (next : ℕ → Grammar A) (at : Cursor) (f : IsField width least greatest at) → TextIsAt (next (number f.front)) (past at width) → TextIsAt (field width least greatest next) at
unfolding IsText
field_text width least greatest next at f g =
    let b = f.begins in
    let e : f.rest ≡ g.text ++ g.rest = sym (left_after width least greatest at f.front f.rest b) ∙ g.parts in
    let size : length (f.front ++ g.text) ≡ width + length g.text = let l = length-append f.front g.text in let w = b.whole in omega (arith, l, w) in
    record {
      value = g.value;
      text = f.front ++ g.text;
      rest = g.rest;
      parts = b.parts ∙ ap (λ (bs : List Bool). f.front ++ bs) e ∙ sym (append_assoc f.front g.text g.rest);
      is_text = (f.front, (g.text, record { parts = refl; whole = b.whole; above = b.above; below = b.below }, g.is_text));
      read = step_ok width least greatest next at (number f.front) (past at width) f.read ∙ g.read ∙ ap (λ (c : Cursor). Ok (g.value, c)) (past_more at width (length g.text) ∙ ap (past at) (sym size));
    }

later_refused : {A : Type 0} (width least greatest : ℕ) (next : ℕ → Grammar A) (at : Cursor) (f : IsField width least greatest at) → NoTextIsAt (next (number f.front)) (past at width) → NoTextIsAt (field width least greatest next) at
unfolding Refuses
later_refused width least greatest next at f g = record {
  after = width + g.after;
  refuses = inr (f.front, (f.rest, (g.after, f.begins, refl, subst (λ bits. Refuses (next (number f.front)) bits g.after) (left_after width least greatest at f.front f.rest f.begins) g.refuses)));
  read = step_ok width least greatest next at (number f.front) (past at width) f.read ∙ g.read ∙ ap (λ (n : ℕ). Err n) (omega arith);
}

first_refused : {A : Type 0} (width least greatest : ℕ) (next : ℕ → Grammar A) (at : Cursor) → IsNoField width least greatest at → NoTextIsAt (field width least greatest next) at
unfolding Refuses
first_refused width least greatest next at f = record {
  after = 0;
  refuses = inl (f.bad, refl);
  read = step_err width least greatest next at at.place f.refused ∙ ap (λ (n : ℕ). Err n) (omega arith);
}

pub read_cases : {A : Type 0} (t : Grammar A) (at : Cursor) → at.place ≤ length at.bits → TextIsAt t at ⊎ NoTextIsAt t at
read_cases (done x) at inside = inl (record { value = x; text = []; rest = left at; parts = refl; is_text = text_done x; read = done_read x at })
read_cases (field width least greatest next) at inside = elim (field_cases width least greatest at inside) [
  | inl f ↦ elim (read_cases (next (number f.front)) (past at width) (inside_after width least greatest at f.front f.rest inside f.begins)) [
    | inl g ↦ inl (field_text width least greatest next at f g)
    | inr g ↦ inr (later_refused width least greatest next at f g)
  ]
  | inr f ↦ inr (first_refused width least greatest next at f)
]

-- ---- the reader accepts each encoding

pub text_is_read : {A : Type 0} (t : Grammar A) (at : Cursor) (text rest : List Bool) (x : A) → at.place ≤ length at.bits → left at ≡ text ++ rest → IsText t text x → reading t at ≡ Ok (x, past at (length text))
unfolding IsText
text_is_read (done v) at text rest x inside e s =
    done_read v at ∙ ap (λ (w : _). Ok (w, past at 0)) s.1 ∙ ap (λ (bs : List Bool). Ok (x, past at (length bs))) (sym s.0)
text_is_read (field width least greatest next) at text rest x inside e s =
    let b : Begins width least greatest (left at) s.0 (s.1.0 ++ rest) = subst (λ bits. Begins width least greatest bits s.0 (s.1.0 ++ rest)) (sym e) (begins-append width least greatest text s.0 s.1.0 rest s.1.1) in
    elim (field_cases width least greatest at inside) [
      | inl f ↦
          let same : f.front ≡ s.0 = (same_front width least greatest (left at) f.front f.rest s.0 (s.1.0 ++ rest) f.begins b).0 in
          let size : length text ≡ width + length s.1.0 = let l = ap length s.1.1.parts ∙ length-append s.0 s.1.0 in let w = s.1.1.whole in omega (arith, l, w) in
          let inner = text_is_read (next (number s.0)) (past at width) s.1.0 rest x (inside_after width least greatest at s.0 (s.1.0 ++ rest) inside b) (left_after width least greatest at s.0 (s.1.0 ++ rest) b) s.1.2 in
          step_ok width least greatest next at (number s.0) (past at width) (f.read ∙ ap (λ (bs : List Bool). Ok (number bs, past at width)) same)
          ∙ inner ∙ ap (λ (c : Cursor). Ok (x, c)) (past_more at width (length s.1.0) ∙ ap (past at) (sym size))
      | inr f ↦ absurd (not_both width least greatest (left at) s.0 (s.1.0 ++ rest) b f.bad)
    ]

-- the reader refuses what the grammar refuses
pub refusal_is_read : {A : Type 0} (t : Grammar A) (at : Cursor) (after : ℕ) → at.place ≤ length at.bits → Refuses t (left at) after → reading t at ≡ Err (at.place + after)
unfolding Refuses
refusal_is_read (done v) at after inside r = absurd r
refusal_is_read (field width least greatest next) at after inside (inl r) = elim (field_cases width least greatest at inside) [
  | inl f ↦ absurd (not_both width least greatest (left at) f.front f.rest f.begins r.0)
  | inr f ↦ step_err width least greatest next at at.place f.refused ∙ ap (λ (n : ℕ). Err n) (let e = r.1 in omega (arith, e))
]
refusal_is_read (field width least greatest next) at after inside (inr r) = elim (field_cases width least greatest at inside) [
  | inl f ↦
      let b = r.1.1.1 in
      let same : f.front ≡ r.0 = (same_front width least greatest (left at) f.front f.rest r.0 r.1.0 f.begins b).0 in
      let inner = refusal_is_read (next (number r.0)) (past at width) r.1.1.0 (inside_after width least greatest at r.0 r.1.0 inside b) (subst (λ bits. Refuses (next (number r.0)) bits r.1.1.0) (sym (left_after width least greatest at r.0 r.1.0 b)) r.1.1.3) in
      step_ok width least greatest next at (number r.0) (past at width) (f.read ∙ ap (λ (bs : List Bool). Ok (number bs, past at width)) same)
      ∙ inner ∙ ap (λ (n : ℕ). Err n) (let e = r.1.1.2 in omega (arith, e))
  | inr f ↦ absurd (not_both width least greatest (left at) r.0 r.1.0 r.1.1.1 f.bad)
]

-- a position that is refused is at most the number of bits
pub refused_inside : {A : Type 0} (t : Grammar A) (bits : List Bool) (place : ℕ) → Refuses t bits place → place ≤ length bits
unfolding Refuses
refused_inside (done v) bits place r = absurd r
refused_inside (field width least greatest next) bits place (inl r) = let e = r.1 in omega (arith, e)
refused_inside (field width least greatest next) bits place (inr r) =
    let inner = refused_inside (next (number r.0)) r.1.0 r.1.1.0 r.1.1.3 in
    let l = ap length r.1.1.1.parts ∙ length-append r.0 r.1.0 in
    let w = r.1.1.1.whole in
    let e = r.1.1.2 in
    omega (arith, inner, l, w, e)
