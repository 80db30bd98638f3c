-- Properties of all encodings in a grammar; a value has one encoding.
use Rattle.std.proofs.Common.{◌≡◌, ℕ, zero, suc, ◌≤◌, Bool, true, false, cond, nat_eq, List, [], ◌∷◌, ◌++◌, length, drop, Some, None, refl, ap, ap₂, sym, subst, ◌∙◌, arith}
use Rattle.std.specs.Prelude.{⊤, is_some, IfSome, All}
use Rattle.std.specs.List.{AllByRecursion}
use Rattle.std.proofs.lemmas.List.{append-nil}
use Rattle.std.proofs.lemmas.List.Elements.{All-from_recursion}
use Rattle.cs_bits.specs.Numbers.{number}
use Rattle.uper.specs.Grammar.{Grammar, done, ◌>>=◌, from_to, flag, if_present, times}
use Rattle.uper.specs.Texts.{IsText}
use Rattle.cs_bits.proofs.Numbers.{number_same}
use Rattle.uper.proofs.Texts.{done_is, both}

-- ---- properties of the encoded values

abbrev pub Holds : {A : Type 0} → Grammar A → (A → Type 0) → Type 0
Holds {A} t P = (bits : List Bool) (x : A) → IsText t bits x → P x

pub holds_done : {A : Type 0} (x : A) (P : A → Type 0) → P x → Holds (done x) P
holds_done x P p bits y s = subst P (done_is x y bits s).1 p

pub holds_bind : {A B : Type 0} (t : Grammar A) (f : A → Grammar B) (P : B → Type 0) → ((v : A) (s : List Bool) → IsText t s v → Holds (f v) P) → Holds (t >>= f) P
holds_bind t f P h bits y s = let p = both t f bits y s in h p.value p.first p.is_text p.second y p.then

-- the bits are a number of this width, within the range
pub record IsNumber (width least greatest : ℕ) (bits : List Bool) (n : ℕ) : Type 0 where
  pub size : length bits ≡ width
  pub is : number bits ≡ n
  pub above : least ≤ n
  pub below : n ≤ greatest

pub within : (width least greatest : ℕ) (bits : List Bool) (n : ℕ) → IsText (from_to width least greatest) bits n → IsNumber width least greatest bits n
unfolding IsText
within width least greatest bits n s =
    let b = s.1.1 in
    let e : bits ≡ s.0 = b.parts ∙ ap (λ (r : List Bool). s.0 ++ r) s.1.2.0 ∙ append-nil s.0 in
    let is : number s.0 ≡ n = s.1.2.1 in
    let above = b.above in
    let below = b.below in
    record { size = ap length e ∙ b.whole; is = ap number e ∙ is; above = omega (arith, above, is); below = omega (arith, below, is) }

pub present_is : {A : Type 0} (there : Bool) (t : Grammar A) → Holds (if_present there t) (λ o. is_some o ≡ there)
unfolding if_present
present_is false t = holds_done None (λ o. is_some o ≡ false) refl
present_is true t = holds_bind t (λ v. done (Some v)) (λ o. is_some o ≡ true) (λ v s h. holds_done (Some v) (λ o. is_some o ≡ true) refl)

pub present_holds : {A : Type 0} (there : Bool) (t : Grammar A) (P : A → Type 0) → Holds t P → Holds (if_present there t) (λ o. IfSome o P)
unfolding if_present
present_holds false t P h = holds_done None (λ o. IfSome o P) tt
present_holds true t P h = holds_bind t (λ v. done (Some v)) (λ o. IfSome o P) (λ v s g. holds_done (Some v) (λ o. IfSome o P) (h s v g))

pub length_is : {A : Type 0} (n : ℕ) (t : Grammar A) → Holds (times n t) (λ xs. length xs ≡ n)
unfolding times
length_is zero t = holds_done [] (λ xs. length xs ≡ 0) refl
length_is (suc n) t =
    holds_bind t (λ first. times n t >>= (λ others. done (first ∷ others))) (λ xs. length xs ≡ suc n)
    (λ first s h. holds_bind (times n t) (λ others. done (first ∷ others)) (λ xs. length xs ≡ suc n)
    (λ others r g. holds_done (first ∷ others) (λ xs. length xs ≡ suc n) (ap suc (length_is n t r others g))))

pub each_holds : {A : Type 0} (n : ℕ) (t : Grammar A) (P : A → Type 0) → Holds t P → Holds (times n t) (λ xs. AllByRecursion P xs)
unfolding times
each_holds zero t P h = holds_done [] (λ xs. AllByRecursion P xs) tt
each_holds (suc n) t P h =
    holds_bind t (λ first. times n t >>= (λ others. done (first ∷ others))) (λ xs. AllByRecursion P xs)
    (λ first s g. holds_bind (times n t) (λ others. done (first ∷ others)) (λ xs. AllByRecursion P xs)
    (λ others r k. holds_done (first ∷ others) (λ xs. AllByRecursion P xs) (h s first g, each_holds n t P h r others k)))

pub all_hold : {A : Type 0} (n : ℕ) (t : Grammar A) (P : A → Type 0) → Holds t P → Holds (times n t) (λ xs. All P xs)
all_hold n t P h bits xs s = All-from_recursion P xs (each_holds n t P h bits xs s)

-- ---- a value has one encoding

-- encodings of one value in two grammars are the same, and a condition on the earlier parts holds
abbrev pub Agree : {A : Type 0} → Grammar A → Grammar A → Type 0 → Type 0
Agree {A} t u Before = (a b : List Bool) (y : A) → IsText t a y → IsText u b y → Before × (a ≡ b)

abbrev pub Once : {A : Type 0} → Grammar A → Type 0
Once t = Agree t t ⊤

-- the complete value determines the earlier parts
pub agree_done : {A : Type 0} (Before : Type 0) (x y : A) → (x ≡ y → Before) → Agree (done x) (done y) Before
agree_done Before x y decoded a b z s r =
    let p = done_is x z a s in
    let q = done_is y z b r in
    (decoded (p.1 ∙ sym q.1), p.0 ∙ sym q.0)

-- if the rest determines the values of the first parts, the first parts agree too
pub agree_bind : {A B : Type 0} (Before : Type 0) (t u : Grammar A) (f g : A → Grammar B) → (Before → Agree t u ⊤)
    → ((v w : A) (s r : List Bool) → IsText t s v → IsText u r w → Agree (f v) (g w) (Before × (v ≡ w))) → Agree (t >>= f) (u >>= g) Before
agree_bind Before t u f g first later a b y s r =
    let p = both t f a y s in
    let q = both u g b y r in
    let after = later p.value q.value p.first q.first p.is_text q.is_text p.second q.second y p.then q.then in
    let before : Before = after.0.0 in
    let same : p.first ≡ q.first = (first before p.first q.first q.value (subst (λ v. IsText t p.first v) after.0.1 p.is_text) q.is_text).1 in
    (before, p.parts ∙ ap₂ (λ (u w : List Bool). u ++ w) same after.1 ∙ sym q.parts)

-- first parts that follow one grammar agree
pub once_bind : {A B : Type 0} (Before : Type 0) (t : Grammar A) (f g : A → Grammar B) → Once t
    → ((v w : A) (s r : List Bool) → IsText t s v → IsText t r w → Agree (f v) (g w) (Before × (v ≡ w))) → Agree (t >>= f) (t >>= g) Before
once_bind Before t f g once later = agree_bind Before t t f g (λ before. once) later

-- a grammar that depends on an earlier value, which is the same in both
pub agree_same : {A B : Type 0} (t : B → Grammar A) (v w : B) → v ≡ w → ((v : B) → Once (t v)) → Agree (t v) (t w) ⊤
agree_same t v w e once = subst (λ x. Agree (t v) (t x) ⊤) e (once v)

-- a grammar that the value itself determines
pub agree_decoded : {A B : Type 0} (t : B → Grammar A) (decoded : A → B) (v w : B) → ((v : B) → Once (t v)) → ((v : B) → Holds (t v) (λ y. decoded y ≡ v)) → Agree (t v) (t w) (⊤ × (v ≡ w))
agree_decoded t decoded v w once holds a b y s r =
    let e : v ≡ w = sym (holds v a y s) ∙ holds w b y r in
    ((tt, e), (agree_same t v w e once a b y s r).1)

pub once_done : {A : Type 0} (x : A) → Once (done x)
once_done x = agree_done ⊤ x x (λ e. tt)

pub once_number : (width least greatest : ℕ) → Once (from_to width least greatest)
once_number width least greatest a b n s r =
    let p = within width least greatest a n s in
    let q = within width least greatest b n r in
    (tt, number_same a b (p.size ∙ sym q.size) (p.is ∙ sym q.is))

-- a field with one value
pub only : (width value : ℕ) → Holds (from_to width value value) (λ n. value ≡ n)
only width value bits n s = let p = within width value value bits n s in let l = p.above in let g = p.below in omega (arith, l, g)

bit_is : (n : ℕ) → n ≤ 1 → cond (nat_eq n 1) 1 0 ≡ n
bit_is zero l = refl
bit_is (suc zero) l = refl
bit_is (suc (suc n)) l = absurd (omega (arith, l))

-- one-bit numbers with the same flag are equal
pub same_bit : (m n : ℕ) → m ≤ 1 → n ≤ 1 → nat_eq m 1 ≡ nat_eq n 1 → m ≡ n
same_bit m n l k e = sym (bit_is m l) ∙ ap (λ b. cond b 1 0) e ∙ bit_is n k

pub once_flag : Once flag
unfolding flag
once_flag = once_bind ⊤ (from_to 1 0 1) (λ n. done (nat_eq n 1)) (λ n. done (nat_eq n 1)) (once_number 1 0 1)
    (λ v w s r p q. agree_done (⊤ × (v ≡ w)) (nat_eq v 1) (nat_eq w 1) (λ e. (tt, same_bit v w (within 1 0 1 s v p).below (within 1 0 1 r w q).below e)))

some_same : {A : Type 0} (v w : A) → Some v ≡ Some w → v ≡ w
some_same v w e = cc

pub once_present : {A : Type 0} (there : Bool) (t : Grammar A) → Once t → Once (if_present there t)
unfolding if_present
once_present false t once = once_done None
once_present true t once = once_bind ⊤ t (λ v. done (Some v)) (λ v. done (Some v)) once
    (λ v w s r p q. agree_done (⊤ × (v ≡ w)) (Some v) (Some w) (λ e. (tt, some_same v w e)))

first_same : {A : Type 0} (v w : A) (vs ws : List A) → v ∷ vs ≡ w ∷ ws → v ≡ w
first_same v w vs ws e = cc

others_same : {A : Type 0} (v w : A) (vs ws : List A) → v ∷ vs ≡ w ∷ ws → vs ≡ ws
others_same v w vs ws e = ap (drop 1) e

pub once_times : {A : Type 0} (n : ℕ) (t : Grammar A) → Once t → Once (times n t)
unfolding times
once_times zero t once = once_done []
once_times {A} (suc n) t once =
    once_bind ⊤ t (λ first. times n t >>= (λ others. done (first ∷ others))) (λ first. times n t >>= (λ others. done (first ∷ others))) once
    (λ v w s r p q. once_bind (⊤ × (v ≡ w)) (times n t) (λ others. done (v ∷ others)) (λ others. done (w ∷ others)) (once_times n t once)
    (λ vs ws s' r' p' q'. agree_done ((⊤ × (v ≡ w)) × (vs ≡ ws)) (v ∷ vs) (w ∷ ws) (λ e. ((tt, first_same v w vs ws e), others_same v w vs ws e))))
