-- Encodings appended one after the other form one encoding.
use Rattle.std.proofs.Common.{◌≡◌, ℕ, zero, suc, ◌+◌, ◌-◌, ◌^◌, ◌<◌, ◌≤◌, ◌⊎◌, inl, inr, Bool, true, false, cond, not, nat_eq, List, [], ◌∷◌, ◌++◌, length, take, get_or, Option, Some, None, refl, ap, ap₂, sym, subst, ◌∙◌, append_assoc, arith, add-one}
use Rattle.std.proofs.lemmas.Bool.{cases_lt, le-leb, lt-leb}
use Rattle.std.proofs.lemmas.List.{append-nil, length-append}
use Rattle.std.proofs.Math.Seq.{take-suc}
use Rattle.std.specs.Prelude.{◌↔◌, is_some}
use mir.Val.{bool_byte}
use Rattle.cs_bits.specs.Numbers.{bits_of}
use Rattle.uper.specs.Grammar.{Grammar, done, ◌>>=◌, from_to, flag, if_present, times}
use Rattle.uper.specs.Texts.{IsText}
use Rattle.uper.specs.Sheet.{append, Puts}
use Rattle.cs_bits.proofs.Numbers.{length-bits_of, number_of_bits}
use Rattle.uper.proofs.Texts.{text_done, done_is, Both, both, text_bind}

append_append : (old : Option (List Bool)) (a b : List Bool) → append (append old a) b ≡ append old (a ++ b)
append_append None a b = refl
append_append (Some bits) a b = by_first (cases_lt (1000 - length bits) (length a))
  where
    whole : length (a ++ b) ≡ length a + length b
    whole = length-append a b

    longer : length (bits ++ a) ≡ length bits + length a
    longer = length-append bits a

    by_second : length a ≤ 1000 - length bits → (1000 - length (bits ++ a) < length b) ⊎ (length b ≤ 1000 - length (bits ++ a)) → append (append (Some bits) a) b ≡ append (Some bits) (a ++ b)
    by_second room (inl over) =
        rw (le-leb (length a) (1000 - length bits) room, lt-leb (length b) (1000 - length (bits ++ a)) over, lt-leb (length (a ++ b)) (1000 - length bits) (let w = whole in let l = longer in omega (arith, room, over, w, l))) refl
    by_second room (inr fits) =
        rw (le-leb (length a) (1000 - length bits) room, le-leb (length b) (1000 - length (bits ++ a)) fits, le-leb (length (a ++ b)) (1000 - length bits) (let w = whole in let l = longer in omega (arith, room, fits, w, l))) (ap (λ (bs : List Bool). Some bs) (append_assoc bits a b))

    by_first : (1000 - length bits < length a) ⊎ (length a ≤ 1000 - length bits) → append (append (Some bits) a) b ≡ append (Some bits) (a ++ b)
    by_first (inl over) =
        rw (lt-leb (length a) (1000 - length bits) over, lt-leb (length (a ++ b)) (1000 - length bits) (let w = whole in omega (arith, over, w))) refl
    by_first (inr room) = by_second room (cases_lt (1000 - length (bits ++ a)) (length b))

append_none : (old : Option (List Bool)) → append old [] ≡ old
append_none None = refl
append_none (Some bits) = rw (le-leb 0 (1000 - length bits) (omega arith)) (ap (λ (bs : List Bool). Some bs) (append-nil bits))

pub puts_bind : {A B : Type 0} (t : Grammar A) (f : A → Grammar B) (x : A) (y : B) (old mid new : Option (List Bool)) → Puts t x old mid → Puts (f x) y mid new → Puts (t >>= f) y old new
puts_bind t f x y old mid new p q = record {
  text = p.text ++ q.text;
  is_text = text_bind t f p.text q.text x y p.is_text q.is_text;
  put = q.put ∙ ap (λ o. append o q.text) p.put ∙ append_append old p.text q.text;
}

pub puts_done : {A : Type 0} (x : A) (old : Option (List Bool)) → Puts (done x) x old old
puts_done x old = record { text = []; is_text = text_done x; put = sym (append_none old) }

pub puts_same : {A : Type 0} (t : Grammar A) (x y : A) (old new : Option (List Bool)) → x ≡ y → Puts t x old new → Puts t y old new
puts_same t x y old new e p = subst (λ v. Puts t v old new) e p

text_number : (width least greatest n : ℕ) → n < 2 ^ width → least ≤ n → n ≤ greatest → IsText (from_to width least greatest) (bits_of width n) n
unfolding IsText
text_number width least greatest n fits above below =
    let e = number_of_bits width n fits in
    (bits_of width n, ([], record { parts = sym (append-nil (bits_of width n)); whole = length-bits_of width n; above = rw e above; below = rw e below }, (refl, e)))

pub puts_number : (width n : ℕ) (old new : Option (List Bool)) → n < 2 ^ width → new ≡ append old (bits_of width n) → (least greatest : ℕ) → least ≤ n → n ≤ greatest → Puts (from_to width least greatest) n old new
puts_number width n old new fits put least greatest above below = record { text = bits_of width n; is_text = text_number width least greatest n fits above below; put = put }

-- ---- in a loop

times_one : {A : Type 0} (t : Grammar A) (b : List Bool) (x : A) → IsText t b x → IsText (times 1 t) b (x ∷ [])
unfolding times
times_one t b x s = subst (λ bits. IsText (times 1 t) bits (x ∷ [])) (append-nil b ∙ refl) (text_bind t (λ first. times 0 t >>= (λ others. done (first ∷ others))) b [] x (x ∷ []) s (text_bind (times 0 t) (λ others. done (x ∷ others)) [] [] [] (x ∷ []) (text_done []) (text_done (x ∷ []))))

times_more : {A : Type 0} (n : ℕ) (t : Grammar A) (a b : List Bool) (xs : List A) (x : A) → IsText (times n t) a xs → IsText t b x → IsText (times (suc n) t) (a ++ b) (xs ++ x ∷ [])
unfolding times
times_more zero t a b xs x s r =
    let e = done_is [] xs a s in
    subst (λ (p : List Bool × List _). IsText (times 1 t) (p.0 ++ b) (p.1 ++ x ∷ [])) (ap₂ (λ (u : List Bool) (v : List _). (u, v)) (sym e.0) e.1) (times_one t b x r)
times_more (suc n) t a b xs x s r =
    let first : Both t (λ first. times n t >>= (λ others. done (first ∷ others))) a xs = both t (λ first. times n t >>= (λ others. done (first ∷ others))) a xs s in
    let second : Both (times n t) (λ others. done (first.value ∷ others)) first.second xs = both (times n t) (λ others. done (first.value ∷ others)) first.second xs first.then in
    let last = done_is (first.value ∷ second.value) xs second.second second.then in
    let inner = times_more n t second.first b second.value x second.is_text r in
    let joined = text_bind (times (suc n) t) (λ others. done (first.value ∷ others)) (second.first ++ b) [] (second.value ++ x ∷ []) (first.value ∷ (second.value ++ x ∷ [])) inner (text_done (first.value ∷ (second.value ++ x ∷ []))) in
    let whole = text_bind t (λ first. times (suc n) t >>= (λ others. done (first ∷ others))) first.first ((second.first ++ b) ++ []) first.value (first.value ∷ (second.value ++ x ∷ [])) first.is_text joined in
    let bits : first.first ++ ((second.first ++ b) ++ []) ≡ a ++ b =
    ap (λ (bs : List Bool). first.first ++ bs) (append-nil (second.first ++ b)) ∙ sym (append_assoc first.first second.first b)
    ∙ ap (λ (bs : List Bool). bs ++ b) (sym (first.parts ∙ ap (λ (bs : List Bool). first.first ++ bs) (second.parts ∙ ap (λ (bs : List Bool). second.first ++ bs) last.0 ∙ append-nil second.first))) in
    let values : first.value ∷ (second.value ++ x ∷ []) ≡ xs ++ x ∷ [] = ap (λ vs. vs ++ x ∷ []) last.1 in
    subst (λ v. IsText (times (suc (suc n)) t) (a ++ b) v) values (subst (λ bs. IsText (times (suc (suc n)) t) bs (first.value ∷ (second.value ++ x ∷ []))) bits whole)

pub puts_none : {A : Type 0} (t : Grammar A) (old : Option (List Bool)) → Puts (times 0 t) [] old old
unfolding times
puts_none t old = puts_done [] old

pub puts_more : {A : Type 0} (t : Grammar A) (n m : ℕ) (xs ys : List A) (x : A) (old mid new : Option (List Bool)) → m ≡ n + 1 → ys ≡ xs ++ x ∷ [] → Puts (times n t) xs old mid → Puts t x mid new → Puts (times m t) ys old new
puts_more t n m xs ys x old mid new e f p q = record {
  text = p.text ++ q.text;
  is_text = subst (λ k. IsText (times k t) (p.text ++ q.text) ys) (sym (e ∙ add-one n)) (subst (λ v. IsText (times (suc n) t) (p.text ++ q.text) v) (sym f) (times_more n t p.text q.text xs x p.is_text q.is_text));
  put = q.put ∙ ap (λ o. append o q.text) p.put ∙ append_append old p.text q.text;
}

-- ---- one number

pub full_put : (old : Option (List Bool)) (more : List Bool) → old ≡ None → old ≡ append old more
full_put old more e = e ∙ ap (λ o. append o more) (sym e)

pub room_put : (old : Option (List Bool)) (bits more new : List Bool) (did : Bool) (n : ℕ) → old ≡ Some bits → ((did ≡ true) ↔ (length bits + n ≤ 1000)) → new ≡ cond did (bits ++ more) bits
    → 1 ≤ n → length more ≡ n → cond (not did) None (Some new) ≡ append old more
room_put old bits more new true n e iff is some size =
    let fits : length bits + n ≤ 1000 = iff.0 refl in
    ap (λ (bs : List Bool). Some bs) is
    ∙ sym (ap (λ o. append o more) e ∙ ap (λ b. cond b (Some (bits ++ more)) None) (le-leb (length more) (1000 - length bits) (omega (arith, fits, size))))
room_put old bits more new false n e iff is some size = by_room (cases_lt (1000 - length bits) (length more))
  where
    by_room : (1000 - length bits < length more) ⊎ (length more ≤ 1000 - length bits) → None ≡ append old more
    by_room (inl over) = sym (ap (λ o. append o more) e ∙ ap (λ b. cond b (Some (bits ++ more)) None) (lt-leb (length more) (1000 - length bits) over))
    by_room (inr fits) = let wrong : false ≡ true = iff.1 (omega (arith, fits, size, some)) in absurd cc

-- ---- flags, optional components, and list items

pub flag_puts : (b : Bool) (old new : Option (List Bool)) → ((least greatest : ℕ) → least ≤ bool_byte b → bool_byte b ≤ greatest → Puts (from_to 1 least greatest) (bool_byte b) old new) → Puts flag b old new
unfolding flag
flag_puts true old new p = puts_bind (from_to 1 0 1) (λ bit. done (nat_eq bit 1)) 1 true old new new (p 0 1 (omega arith) (omega arith)) (puts_done true new)
flag_puts false old new p = puts_bind (from_to 1 0 1) (λ bit. done (nat_eq bit 1)) 0 false old new new (p 0 1 (omega arith) (omega arith)) (puts_done false new)

pub take_one_more : {A : Type 0} (xs : List A) (i : ℕ) (d : A) → i < length xs → take (i + 1) xs ≡ take i xs ++ get_or xs i d ∷ []
take_one_more xs i d inside = ap (λ k. take k xs) (add-one i) ∙ take-suc xs i d inside

pub each_puts : {A : Type 0} (t : Grammar A) (xs : List A) (i : ℕ) (d : A) (old mid new : Option (List Bool)) → i < length xs → Puts (times i t) (take i xs) old mid → Puts t (get_or xs i d) mid new → Puts (times (i + 1) t) (take (i + 1) xs) old new
each_puts t xs i d old mid new inside before one = puts_more t i (i + 1) (take i xs) (take (i + 1) xs) (get_or xs i d) old mid new refl (take_one_more xs i d inside) before one

pub some_puts : {A : Type 0} (t : Grammar A) (o : Option A) (x : A) (old new : Option (List Bool)) → o ≡ Some x → Puts t x old new → Puts (if_present (is_some o) t) o old new
unfolding if_present
some_puts t (Some y) x old new e p =
    let same : x ≡ y = cc in
    puts_bind t (λ v. done (Some v)) y (Some y) old new new (puts_same t x y old new same p) (puts_done (Some y) new)
some_puts t None x old new e p = absurd cc

pub none_puts : {A : Type 0} (t : Grammar A) (o : Option A) (old : Option (List Bool)) → is_some o ≡ false → Puts (if_present (is_some o) t) o old old
unfolding if_present
none_puts t (Some y) old e = absurd cc
none_puts t None old e = puts_done None old
