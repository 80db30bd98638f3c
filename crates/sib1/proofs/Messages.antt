-- Bits decode to one result.
use Rattle.std.proofs.Common.{◌≡◌, ℕ, ◌⊎◌, inl, inr, Bool, true, false, List, [], ◌∷◌, ◌++◌, Result, Ok, Err, refl, ap, ap₂, sym, subst, ◌∙◌, arith}
use Rattle.cs_bits.specs.Numbers.{number}
use Rattle.lte_types.specs.declared.sib1.Sib1.{Sib1}
use Rattle.lte_types.specs.declared.sib1_reason.Sib1Reason.{Sib1Reason}
use Rattle.lte_types.specs.declared.sib1_reason.Sib1Reason.TheVariants.{NotSib1, BadFields}
use Rattle.uper.specs.Grammar.{Grammar, ◌>>=◌, from_to}
use Rattle.uper.specs.Texts.{Begins, IsText, BeginsWith, Refuses}
use Rattle.uper.proofs.Fronts.{one_value, one_place, text_or_refusal}
use Rattle.sib1.specs.Layout.{sib1}
use Rattle.sib1.specs.Message.{IsSib1, IsRefused, Says, Writes}

-- a one-bit field with one value
one_bit : (value : ℕ) (bits front rest : List Bool) → Begins 1 value value bits front rest → (b : Bool) × (front ≡ b ∷ []) × (number front ≡ value)
one_bit value bits [] rest b = absurd (let w = b.whole in omega (arith, w))
one_bit value bits (x ∷ []) rest b = (x, refl, let l = b.above in let g = b.below in omega (arith, l, g))
one_bit value bits (x ∷ y ∷ zs) rest b = absurd (let w = b.whole in omega (arith, w))

zero_bit : (b : Bool) → number (b ∷ []) ≡ 0 → b ≡ false
zero_bit false e = refl
zero_bit true e = absurd (omega (arith, e))

one_is : (b : Bool) → number (b ∷ []) ≡ 1 → b ≡ true
one_is true e = refl
one_is false e = absurd (omega (arith, e))

begins_so : (next : ℕ → ℕ → Grammar Sib1) (bits text rest : List Bool) (x : Sib1) → bits ≡ text ++ rest → IsText (from_to 1 0 0 >>= (λ a. from_to 1 1 1 >>= (λ b. next a b))) text x → IsSib1 bits
unfolding IsText ◌>>=◌
begins_so next bits text rest x parts s =
    let first = s.1.1 in
    let second = s.1.2.1.1 in
    let a = one_bit 0 text s.0 s.1.0 first in
    let b = one_bit 1 s.1.0 s.1.2.0 s.1.2.1.0 second in
    let a0 : s.0 ≡ false ∷ [] = a.1 ∙ ap (λ (c : Bool). c ∷ []) (zero_bit a.0 (ap number (sym a.1) ∙ a.2)) in
    let b1 : s.1.2.0 ≡ true ∷ [] = b.1 ∙ ap (λ (c : Bool). c ∷ []) (one_is b.0 (ap number (sym b.1) ∙ b.2)) in
    let inner : s.1.0 ≡ true ∷ s.1.2.1.0 = second.parts ∙ ap (λ (f : List Bool). f ++ s.1.2.1.0) b1 in
    let outer : text ≡ false ∷ true ∷ s.1.2.1.0 = first.parts ∙ ap₂ (λ (f r : List Bool). f ++ r) a0 inner in
    record { rest = s.1.2.1.0 ++ rest; begins = parts ∙ ap (λ (t : List Bool). t ++ rest) outer }

pub text_is_sib1 : (bits : List Bool) (x : Sib1) → BeginsWith sib1 bits x → IsSib1 bits
unfolding sib1
text_is_sib1 bits x b = begins_so _ bits b.text b.rest x b.parts b.is_text

refused_is : (bits : List Bool) (reason : Sib1Reason) → IsRefused bits reason → ((reason ≡ NotSib1) × (IsSib1 bits → ⊥)) ⊎ ((place : ℕ) × (reason ≡ BadFields place) × IsSib1 bits × Refuses sib1 bits place)
refused_is bits NotSib1 r = inl (refl, r)
refused_is bits (BadFields place) r = inr (place, refl, r.0, r.1)
refused_is bits _ r = absurd r

not_ok_and_err : (bits : List Bool) (x : Sib1) (reason : Sib1Reason) → BeginsWith sib1 bits x → IsRefused bits reason → ⊥
not_ok_and_err bits x reason b r = elim (refused_is bits reason r) [
  | inl n ↦ n.1 (text_is_sib1 bits x b)
  | inr n ↦ text_or_refusal sib1 bits x n.0 b n.3
]

one_reason : (bits : List Bool) (a b : Sib1Reason) → IsRefused bits a → IsRefused bits b → a ≡ b
one_reason bits a b r s = cases (refused_is bits a r) (refused_is bits b s)
  where
    cases : ((a ≡ NotSib1) × (IsSib1 bits → ⊥)) ⊎ ((place : ℕ) × (a ≡ BadFields place) × IsSib1 bits × Refuses sib1 bits place) → ((b ≡ NotSib1) × (IsSib1 bits → ⊥)) ⊎ ((place : ℕ) × (b ≡ BadFields place) × IsSib1 bits × Refuses sib1 bits place) → a ≡ b
    cases (inl n) (inl m) = n.0 ∙ sym m.0
    cases (inl n) (inr m) = absurd (n.1 m.2)
    cases (inr n) (inl m) = absurd (m.1 n.2)
    cases (inr n) (inr m) = n.1 ∙ ap BadFields (one_place sib1 bits n.0 m.0 n.3 m.3) ∙ sym m.1

pub one_answer : (bits : List Bool) (a b : Result Sib1 Sib1Reason) → Says bits a → Says bits b → a ≡ b
one_answer bits (Ok x) (Ok y) s t = ap (λ v. Ok v) (one_value sib1 bits x y s t)
one_answer bits (Ok x) (Err r) s t = absurd (not_ok_and_err bits x r s t)
one_answer bits (Err r) (Ok x) s t = absurd (not_ok_and_err bits x r t s)
one_answer bits (Err r) (Err q) s t = ap (λ e. Err e) (one_reason bits r q s t)

pub whatever_follows : (text more : List Bool) (x : Sib1) → IsText sib1 text x → BeginsWith sib1 (text ++ more) x
whatever_follows text more x s = record { text = text; rest = more; parts = refl; is_text = s }

pub written_is_read : (bits more : List Bool) (x : Sib1) (answer : Result Sib1 Sib1Reason) → Writes x true bits → Says (bits ++ more) answer → answer ≡ Ok x
written_is_read bits more x answer w says =
    one_answer (bits ++ more) answer (Ok x) says (subst (λ b. Says (b ++ more) (Ok x)) (sym w.written) (whatever_follows w.text more x w.is_text))
