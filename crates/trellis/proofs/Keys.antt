-- The smallest key belongs to the first of the cheapest words.
use Rattle.std.proofs.Common.{◌≡◌, ℕ, suc, ◌+◌, ◌*◌, ◌^◌, ◌<◌, ◌≤◌, inl, inr, Bool, List, length, ap, sym, ◌∙◌, arith, mul-le-mul_right}
use Rattle.std.proofs.lemmas.Bool.{cases_lt}
use Rattle.cs_bits.specs.Numbers.{number}
use Rattle.cs_bits.proofs.Numbers.{number_below}
use Rattle.trellis.specs.Words.{IsFirstLeast, key}
use Rattle.trellis.proofs.Words.{number-before, either_before}

-- a cost that is greater by at least 1 outweighs a full scale
unit_more : (scale a b : ℕ) → a < b → a * scale + scale ≤ b * scale
unit_more scale a b less =
    let h : suc a * scale ≤ b * scale = mul-le-mul_right scale (omega (arith, less)) in
    let e : suc a * scale ≡ a * scale + scale = grind arith in
    omega (arith, h, e)

-- a word's number is below the scale
below_scale : (n scale : ℕ) (word : List Bool) → 2 ^ n ≤ scale → length word ≡ n → number word < scale
below_scale n scale word wide size =
    let h = number_below word in
    let e = ap (λ i. 2 ^ i) size in
    omega (arith, h, e, wide)

pub first_least-key : (n scale : ℕ) (cost : List Bool → ℕ) (word : List Bool) → 2 ^ n ≤ scale → IsFirstLeast n cost word →
    (other : List Bool) → length other ≡ n → key scale cost word ≤ key scale cost other
first_least-key n scale cost word wide is other size = elim (either_before word other (is.size ∙ sym size)) [
  | inl same ↦ let e = ap (key scale cost) same in omega (arith, e)
  | inr apart ↦ elim apart [
    | inl before ↦
        let less = number-before word other (is.size ∙ sym size) before in
        let more = mul-le-mul_right scale (is.least other size) in
        omega (arith, less, more)
    | inr before ↦
        let more = unit_more scale (cost word) (cost other) (is.first other size before) in
        let small = below_scale n scale word wide is.size in
        omega (arith, more, small)
  ]
]

pub first_least_by_key : (n scale : ℕ) (cost : List Bool → ℕ) (word : List Bool) → 2 ^ n ≤ scale → length word ≡ n →
    ((other : List Bool) → length other ≡ n → key scale cost word ≤ key scale cost other) → IsFirstLeast n cost word
first_least_by_key n scale cost word wide size least = record {
  size = size;
  least = λ other size'. elim (cases_lt (cost other) (cost word)) [
    | inr h ↦ h
    | inl less ↦
        let more = unit_more scale (cost other) (cost word) less in
        let small = below_scale n scale other wide size' in
        let h = least other size' in
        absurd (omega (arith, more, small, h))
  ];
  first = λ other size' before. elim (cases_lt (cost word) (cost other)) [
    | inl h ↦ h
    | inr no_more ↦
        let more = mul-le-mul_right scale no_more in
        let less = number-before other word (size' ∙ sym size) before in
        let h = least other size' in
        absurd (omega (arith, more, less, h))
  ];
}
