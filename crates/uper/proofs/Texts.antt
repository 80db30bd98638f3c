-- Encodings in two parts, and the first field of bits.
use Rattle.std.proofs.Common.{◌≡◌, ℕ, inl, inr, Bool, List, [], ◌++◌, length, take, drop, refl, ap, sym, subst, ◌∙◌, append_assoc, arith}
use Rattle.std.proofs.lemmas.List.{take_at, drop_at, length-append}
use Rattle.cs_bits.specs.Numbers.{number}
use Rattle.uper.specs.Grammar.{Grammar, done, field, ◌>>=◌}
use Rattle.uper.specs.Texts.{Begins, IsText, IsBad}

pub text_done : {A : Type 0} (x : A) → IsText (done x) [] x
unfolding IsText
text_done x = (refl, refl)

pub done_is : {A : Type 0} (x y : A) (bits : List Bool) → IsText (done x) bits y → (bits ≡ []) × (x ≡ y)
unfolding IsText
done_is x y bits s = s

pub begins-append : (width least greatest : ℕ) (bits front rest more : List Bool) → Begins width least greatest bits front rest → Begins width least greatest (bits ++ more) front (rest ++ more)
begins-append width least greatest bits front rest more b = record {
  parts = ap (λ (bs : List Bool). bs ++ more) b.parts ∙ append_assoc front rest more;
  whole = b.whole;
  above = b.above;
  below = b.below;
}

pub text_bind : {A B : Type 0} (t : Grammar A) (f : A → Grammar B) (a b : List Bool) (x : A) (y : B) → IsText t a x → IsText (f x) b y → IsText (t >>= f) (a ++ b) y
unfolding IsText ◌>>=◌
text_bind (done v) f a b x y s r =
    let e : a ++ b ≡ b = ap (λ (bs : List Bool). bs ++ b) s.0 in
    subst (λ bits. IsText (f v) bits y) (sym e) (subst (λ w. IsText (f w) b y) (sym s.1) r)
text_bind (field width least greatest next) f a b x y s r =
    (s.0, (s.1.0 ++ b, begins-append width least greatest a s.0 s.1.0 b s.1.1, text_bind (next (number s.0)) f s.1.0 b x y s.1.2 r))

-- an encoding in two parts
pub record Both {A B : Type 0} (t : Grammar A) (f : A → Grammar B) (bits : List Bool) (y : B) : Type 0 where
  pub value : A
  pub first : List Bool
  pub second : List Bool
  pub parts : bits ≡ first ++ second
  pub is_text : IsText t first value
  pub then : IsText (f value) second y

pub both : {A B : Type 0} (t : Grammar A) (f : A → Grammar B) (bits : List Bool) (y : B) → IsText (t >>= f) bits y → Both t f bits y
unfolding IsText ◌>>=◌
both (done x) f bits y s = record { value = x; first = []; second = bits; parts = refl; is_text = (refl, refl); then = s }
both (field width least greatest next) f bits y s =
    let inner = both (next (number s.0)) f s.1.0 y s.1.2 in
    let b = s.1.1 in
    record {
      value = inner.value;
      first = s.0 ++ inner.first;
      second = inner.second;
      parts = b.parts ∙ ap (λ (bs : List Bool). s.0 ++ bs) inner.parts ∙ sym (append_assoc s.0 inner.first inner.second);
      is_text = (s.0, (inner.first, record { parts = refl; whole = b.whole; above = b.above; below = b.below }, inner.is_text));
      then = inner.then;
    }

-- ---- the first field

-- bits begin with a field in only one way
pub same_front : (width least greatest : ℕ) (bits front rest front' rest' : List Bool) → Begins width least greatest bits front rest → Begins width least greatest bits front' rest' → (front ≡ front') × (rest ≡ rest')
same_front width least greatest bits front rest front' rest' b b' = (
  sym (take_at front rest width b.whole) ∙ ap (take width) (sym b.parts ∙ b'.parts) ∙ take_at front' rest' width b'.whole,
  sym (drop_at front rest width b.whole) ∙ ap (drop width) (sym b.parts ∙ b'.parts) ∙ drop_at front' rest' width b'.whole,
)

-- bits do not begin both with a valid field and with a bad one
pub not_both : (width least greatest : ℕ) (bits front rest : List Bool) → Begins width least greatest bits front rest → IsBad width least greatest bits → ⊥
not_both width least greatest bits front rest b bad = elim bad [
  | inl cut ↦ let e = ap length b.parts in let l = length-append front rest in let w = b.whole in omega (arith, e, l, w, cut)
  | inr out ↦
      let e : take width bits ≡ front = ap (take width) b.parts ∙ take_at front rest width b.whole in
      let n : number (take width bits) ≡ number front = ap number e in
      let above = b.above in
      let below = b.below in
      elim out.1 [ inl under ↦ omega (arith, n, above, under) | inr over ↦ omega (arith, n, below, over) ]
]
