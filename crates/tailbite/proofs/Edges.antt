-- The two edges into each state, and the row of minimum costs one step on.
use Rattle.std.proofs.Common.{◌≡◌, ℕ, suc, ◌+◌, ◌*◌, ◌/◌, ◌%◌, ◌<◌, ◌≤◌, Bool, true, false, List, [], get_or, ℤ, refl, inl, inr, arith}
use Rattle.std.proofs.lemmas.Bool.{cases_lt}
use Rattle.finite.specs.Bits.{odd}
use Rattle.trellis.specs.Rows.{IsLeastRow}
use Rattle.trellis.proofs.Forward.{HasEdges}
use Rattle.trellis.proofs.Rows.{row_later}
use Rattle.tailbite.specs.Machine.{shift, step_cost, first_from, second_from, newest_bit, forward_least}
use Rattle.tailbite.proofs.Windows.{shift_below}

to_state : (x p : ℕ) → x < 64 → p / 2 ≡ x % 32 → shift p (newest_bit x) ≡ x
to_state x p below half = elim (cases_lt x 32) [
  | inl low ↦ let bit : x / 32 % 2 ≡ 0 = omega arith in rw bit (let e : p / 2 + 0 ≡ x = omega arith in e)
  | inr high ↦ let bit : x / 32 % 2 ≡ 1 = omega arith in rw bit (let e : p / 2 + 32 ≡ x = omega arith in e)
]

bit_is : (x y : ℕ) (a : Bool) → y < 64 → shift y a ≡ x → a ≡ newest_bit x
bit_is x y false below e = let bit : x / 32 % 2 ≡ 0 = omega arith in rw bit refl
bit_is x y true below e = let bit : x / 32 % 2 ≡ 1 = omega arith in rw bit refl

half_is : (x y : ℕ) (a : Bool) → y < 64 → shift y a ≡ x → y / 2 ≡ x % 32
half_is x y false below e = omega arith
half_is x y true below e = omega arith

pub edges : (x : ℕ) → x < 64 → HasEdges shift 64 x (first_from x) (newest_bit x) (second_from x) (newest_bit x)
edges x below = record {
  first_below = omega arith;
  second_below = omega arith;
  first = to_state x (2 * (x % 32)) below (omega arith);
  second = to_state x (2 * (x % 32) + 1) below (omega arith);
  only = λ y a here e.
      let half = half_is x y a here e in
      let bit = bit_is x y a here e in
      elim (cases_lt (y % 2) 1) [ inl even ↦ inl (omega arith, bit) | inr odd ↦ inr (omega arith, bit) ];
}

pub forward_row_is : (values : List (List ℤ)) (starts : ℕ → ℕ) (first most k : ℕ) (row later : List ℕ) →
    IsLeastRow shift (step_cost values) starts 64 first most k row →
    ((x : ℕ) → x < 64 → get_or later x 0 ≡ forward_least (get_or values k []) row x) →
    ((x : ℕ) → x < 64 → get_or later x 0 ≤ get_or row (first_from x) 0 + most) →
    IsLeastRow shift (step_cost values) starts 64 first most (suc k) later
forward_row_is values starts first most k row later known step growth =
    row_later shift (step_cost values) starts 64 first most k first_from newest_bit second_from newest_bit row later shift_below edges known step growth
