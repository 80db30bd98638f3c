-- Lines through pilots: numbers that are, in parts, some centre up to a deviation in any unit, and in particular a
-- multiple of a gain.
use Rattle.std.proofs.Common.{◌≡◌, ℕ, ◌+◌, ◌-◌, ◌*◌, ◌/◌, ◌%◌, ◌<◌, ◌≤◌, arith, refl, ap, ap₂, sym, ◌∙◌, subst, Bool, true, false, nat_lt}
use Rattle.std.specs.Prelude.{if◌then◌else◌}
use Rattle.std.proofs.lemmas.Bool.{ltb-true, ltb-false}
use Rattle.std.proofs.lemmas.Nat.{mod_below}
use Rattle.std.proofs.Math.Nat.{div-lt_iff_lt-mul}
use Rattle.cs_num.specs.declared.Cpx.{Cpx}
use Rattle.cs_num.specs.Complex.{plus, minus, multiple, square}
use Rattle.norms.specs.Magnitudes.{IsBounded}
use Rattle.norms.proofs.Algebra.{minus-plus, plus-exchanges, multiple-plus, multiple_twice, multiple_sum}
use Rattle.norms.proofs.Bounded.{bounded-plus}
use Rattle.norms.proofs.Products.{bounded-multiple}
use Rattle.budget.specs.Received.{in_parts}
use Rattle.budget.proofs.Parts.{multiple-swaps}
use Rattle.soft_bits.specs.Estimate.{place_by, between_by, line_by, estimate}

-- z in parts is a centre, within t times the root of n
pub record IsOff (n t : ℕ) (centre z : Cpx) : Type 0 where
  pub off : Cpx
  pub is : in_parts z ≡ plus centre off
  pub small : IsBounded t n off

pub off-multiple : (n t m : ℕ) (centre z : Cpx) → IsOff n t centre z → IsOff n (m * t) (multiple m centre) (multiple m z)
off-multiple n t m centre z near = record {
  off = multiple m near.off;
  is = multiple-swaps 16384 m z ∙ ap (multiple m) near.is ∙ multiple-plus m centre near.off;
  small = bounded-multiple m near.off t n near.small;
}

pub off-plus : (n s t : ℕ) (a b x y : Cpx) → IsOff n s a x → IsOff n t b y → IsOff n (s + t) (plus a b) (plus x y)
off-plus n s t a b x y p q = record {
  off = plus p.off q.off;
  is = multiple-plus 16384 x y ∙ ap₂ plus p.is q.is ∙ plus-exchanges a p.off b q.off;
  small = bounded-plus p.off q.off s t n p.small q.small;
}

pub off-size : (n t : ℕ) (centre z : Cpx) → IsOff n t centre z → square (minus (in_parts z) centre) ≤ t * t * n
off-size n t centre z near = subst (λ (x : Cpx). square x ≤ t * t * n) (sym (ap (λ (x : Cpx). minus x centre) near.is ∙ minus-plus centre near.off)) near.small.bounded

-- ---- lines

distributes : (a b c : ℕ) → (a + b) * c ≡ a * c + b * c
distributes a b c = omega arith

shares : (step r t : ℕ) → r < step → (step - r) * t + r * t ≡ step * t
shares step r t few = sym (distributes (step - r) r t) ∙ ap (λ m. m * t) (let e : step - r + r ≡ step = omega (arith, few) in e)

-- two lines are related, outside the pilots and between them, if their pilots are
module _ (R : Cpx → Cpx → Type 0) (step last : ℕ) (f g : ℕ → Cpx) (some : 1 ≤ step) (outer : (i : ℕ) → i ≤ last → R (multiple step (f i)) (multiple step (g i)))
    (inner : (i r : ℕ) → i + 1 ≤ last → r < step → R (between_by step f i r) (between_by step g i r)) where
  line_related : (shift k : ℕ) → R (line_by step last f shift k) (line_by step last g shift k)
  line_related shift k = first (nat_lt k (place_by step shift 0)) refl
    where
      pilot-below : place_by step shift 0 ≤ k → k < place_by step shift last → (k - shift) / step < last
      pilot-below from below = (div-lt_iff_lt-mul some).1 (offset (step * 0) (step * last) (last * step) (omega arith) (omega arith) from below)
        where
          offset : (a b c : ℕ) → a ≡ 0 → b ≡ c → shift + a ≤ k → k < shift + b → k - shift < c
          offset a b c e f h l = omega (arith, e, f, h, l)

      second : (b : Bool) → nat_lt k (place_by step shift last) ≡ b → place_by step shift 0 ≤ k →
          R (if b then between_by step f ((k - shift) / step) ((k - shift) % step) else multiple step (f last)) (if b then between_by step g ((k - shift) / step) ((k - shift) % step) else multiple step (g last))
      second true e from =
          let below = pilot-below from (ltb-true k (place_by step shift last) e) in
          inner ((k - shift) / step) ((k - shift) % step) (omega (arith, below)) (mod_below (k - shift) step some)
      second false e from = outer last (omega arith)

      first : (b : Bool) → nat_lt k (place_by step shift 0) ≡ b →
          R (if b then multiple step (f 0) else (if nat_lt k (place_by step shift last) then between_by step f ((k - shift) / step) ((k - shift) % step) else multiple step (f last)))
          (if b then multiple step (g 0) else (if nat_lt k (place_by step shift last) then between_by step g ((k - shift) / step) ((k - shift) % step) else multiple step (g last)))
      first true e = outer 0 (omega arith)
      first false e = second (nat_lt k (place_by step shift last)) refl (ltb-false k (place_by step shift 0) e)

-- the line through pilots deviates from the line through their centres by the pilots' deviation times the pilot spacing
pub line-off : (n t : ℕ) (centres pilots : ℕ → Cpx) (step last : ℕ) → 1 ≤ step → ((i : ℕ) → i ≤ last → IsOff n t (centres i) (pilots i)) → (shift k : ℕ) →
    IsOff n (step * t) (line_by step last centres shift k) (line_by step last pilots shift k)
line-off n t centres pilots step last some near =
    line_related (λ c z. IsOff n (step * t) c z) step last centres pilots some
    (λ i l. off-multiple n t step (centres i) (pilots i) (near i l))
    (λ i r l few. subst (λ (m : ℕ). IsOff n m (between_by step centres i r) (between_by step pilots i r)) (shares step r t few)
    (off-plus n ((step - r) * t) (r * t) (multiple (step - r) (centres i)) (multiple r (centres (i + 1))) (multiple (step - r) (pilots i)) (multiple r (pilots (i + 1)))
    (off-multiple n t (step - r) (centres i) (pilots i) (near i (omega (arith, l))))
    (off-multiple n t r (centres (i + 1)) (pilots (i + 1)) (near (i + 1) l))))

-- the line through multiples is the multiple of the line
pub line-multiple : (m step last : ℕ) (f : ℕ → Cpx) → 1 ≤ step → (shift k : ℕ) → line_by step last (λ i. multiple m (f i)) shift k ≡ multiple m (line_by step last f shift k)
line-multiple m step last f some =
    line_related (λ x y. x ≡ multiple m y) step last (λ i. multiple m (f i)) f some
    (λ i l. multiple-swaps step m (f i))
    (λ i r l few. ap₂ plus (multiple-swaps (step - r) m (f i)) (multiple-swaps r m (f (i + 1))) ∙ sym (multiple-plus m (multiple (step - r) (f i)) (multiple r (f (i + 1)))))

-- the line through one number is constant
pub line-level : (step last : ℕ) (z : Cpx) → 1 ≤ step → (shift k : ℕ) → line_by step last (λ i. z) shift k ≡ multiple step z
line-level step last z some =
    line_related (λ x y. x ≡ multiple step z) step last (λ i. z) (λ i. z) some
    (λ i l. refl)
    (λ i r l few. sym (multiple_sum (step - r) r z) ∙ ap (λ (m : ℕ). multiple m z) (let e : step - r + r ≡ step = omega (arith, few) in e))

-- ---- near a multiple of a gain

-- z in parts is c times the gain, within t times the root of n
abbrev pub IsNear : ℕ → Cpx → ℕ → ℕ → Cpx → Type 0
IsNear n gain c t z = IsOff n t (multiple c gain) z

pub near-multiple : (n : ℕ) (gain z : Cpx) (m c t : ℕ) → IsNear n gain c t z → IsNear n gain (m * c) (m * t) (multiple m z)
near-multiple n gain z m c t near = subst (λ (x : Cpx). IsOff n (m * t) x (multiple m z)) (multiple_twice m c gain) (off-multiple n t m (multiple c gain) z near)

pub near-plus : (n : ℕ) (gain x y : Cpx) (a b s t : ℕ) → IsNear n gain a s x → IsNear n gain b t y → IsNear n gain (a + b) (s + t) (plus x y)
near-plus n gain x y a b s t p q = subst (λ (z : Cpx). IsOff n (s + t) z (plus x y)) (sym (multiple_sum a b gain)) (off-plus n s t (multiple a gain) (multiple b gain) x y p q)

pub near-off : (n : ℕ) (gain z : Cpx) (c t : ℕ) → IsNear n gain c t z → square (minus (in_parts z) (multiple c gain)) ≤ t * t * n
near-off n gain z c t near = off-size n t (multiple c gain) z near

-- the line through pilots that are all near one multiple is near it
pub line-near : (n : ℕ) (gain : Cpx) (c t : ℕ) (pilots : ℕ → Cpx) (step last : ℕ) → 1 ≤ step → ((i : ℕ) → i ≤ last → IsNear n gain c t (pilots i)) → (shift k : ℕ) →
    IsNear n gain (step * c) (step * t) (line_by step last pilots shift k)
line-near n gain c t pilots step last some near shift k =
    subst (λ (x : Cpx). IsOff n (step * t) x (line_by step last pilots shift k)) (line-level step last (multiple c gain) some shift k ∙ multiple_twice step c gain)
    (line-off n t (λ i. multiple c gain) pilots step last some near shift k)

-- the estimate from 24 pilots is near three times that multiple
pub estimate-near : (n : ℕ) (gain : Cpx) (c t : ℕ) (pilots : ℕ → Cpx) → ((i : ℕ) → i < 24 → IsNear n gain c t (pilots i)) → (shift k : ℕ) →
    IsNear n gain (3 * c) (3 * t) (estimate pilots shift k)
estimate-near n gain c t pilots near shift k = line-near n gain c t pilots 3 23 (omega arith) (λ i l. near i (omega (arith, l))) shift k
