-- The backward recursion.
use Rattle.std.proofs.Common.{◌≡◌, ◌≢◌, ℕ, suc, ◌+◌, ◌-◌, ◌*◌, ◌<◌, ◌≤◌, Bool, true, false, List, [], length, get_or, set, ℤ, pos, ◌+ℤ◌, ◌-ℤ◌, refl, ap, ◌∙◌, inl, inr, arith, get_or-set_other, get_or-set_same, length-set}
use Rattle.std.proofs.lemmas.Bool.{cases_lt}
use Rattle.std.proofs.lemmas.Int.{ints}
use Rattle.finite.proofs.Lists.{values_below_is}
use Rattle.trellis.specs.Paths.{best}
use Rattle.trellis.specs.Least.{IsLeastVia}
use Rattle.trellis.proofs.Through.{least_split}
use Rattle.turbo_dec.specs.Decoder.{Values, values_of, at, within_2047, extrinsic, extrinsics}
use Rattle.turbo_dec.specs.Laws.{IsGreatest}
use Rattle.turbo_code.specs.Machine.{next}
use Rattle.turbo_dec.specs.Costs.{edge_cost, step_cost, tail_cost, starts, backward_least, IsForwardRow, HasRows}
use Rattle.turbo_dec.proofs.Scores.{worth}
use Rattle.turbo_dec.proofs.Small.{AreSmall}
use Rattle.turbo_dec.proofs.Greatest.{least_gives_greatest, extrinsic_is}
use Rattle.turbo_code.proofs.Edges.{next_below}

-- `row` holds the minimum costs from each state at index k, and the extrinsic values from index k on are final
pub record IsBackTo (v : Values) (row : List ℕ) (out : List ℤ) (k : ℕ) : Type 0 where
  pub size : length out ≡ length v.systematic
  pub index : k ≤ length v.systematic
  pub least : (x : ℕ) → x < 8 → get_or row x 0 ≡ best next (step_cost v) (tail_cost v.tail) k (length v.systematic - k) x
  pub room : (x : ℕ) → x < 8 → get_or row x 0 ≤ 24576 + (length v.systematic - k) * 12288
  pub done : (j : ℕ) → k ≤ j → j < length v.systematic → get_or out j (pos 0) ≡ extrinsic v j

-- the minimum cost over the steps with bit b gives the maximum score with that bit
through_greatest : (v : Values) (k n : ℕ) (row after : List ℕ) (sum parity : ℤ) (b : Bool) (m : ℕ) → AreSmall v →
    k + suc n ≡ length v.systematic → length v.systematic ≤ 1024 → IsForwardRow v k row →
    ((x : ℕ) → x < 8 → get_or after x 0 ≡ best next (step_cost v) (tail_cost v.tail) (suc k) n x) →
    sum ≡ at v.systematic k +ℤ at v.prior k → parity ≡ at v.parity k →
    IsLeastVia next (edge_cost sum parity) (λ x. get_or row x 0) (λ x. get_or after x 0) b 8 m → IsGreatest v k b (pos (worth v) -ℤ pos m)
through_greatest v k n row after sum parity b m small size short forward back s p through =
    least_gives_greatest v k n b m small size short
    (least_split next (step_cost v) starts (tail_cost v.tail) (λ x. get_or row x 0) 8 k n b m next_below forward.least
    (record {
      reached = let (x, below, e) = through.reached in (x, below, rw (← back (next x b) (next_below x b below), ← s, ← p) e);
      least = λ x below. rw (← back (next x b) (next_below x b below), ← s, ← p) (through.least x below);
    }))

pub back_start : (v : Values) (row : List ℕ) (out : List ℤ) → length out ≡ length v.systematic →
    ((x : ℕ) → x < 8 → get_or row x 0 ≡ tail_cost v.tail x) → ((x : ℕ) → x < 8 → get_or row x 0 ≤ 24576) → IsBackTo v row out (length v.systematic)
back_start v row out size h room = record {
  size = size;
  index = omega arith;
  least = λ x below. let z : length v.systematic - length v.systematic ≡ 0 = omega arith in rw z (h x below);
  room = λ x below. let r = room x below in omega (arith, r);
  done = λ j from to. absurd (omega arith);
}

pub back_step : (v : Values) (row earlier forward : List ℕ) (out : List ℤ) (k : ℕ) (sum parity e : ℤ) (zeros ones : ℕ) → AreSmall v → length v.systematic ≤ 1024 →
    IsBackTo v row out (suc k) → IsForwardRow v k forward →
    sum ≡ at v.systematic k +ℤ at v.prior k → parity ≡ at v.parity k →
    IsLeastVia next (edge_cost sum parity) (λ x. get_or forward x 0) (λ x. get_or row x 0) false 8 zeros →
    IsLeastVia next (edge_cost sum parity) (λ x. get_or forward x 0) (λ x. get_or row x 0) true 8 ones →
    e ≡ within_2047 ((pos ones -ℤ pos zeros) -ℤ sum) →
    ((x : ℕ) → x < 8 → get_or earlier x 0 ≡ backward_least sum parity row x) →
    ((x : ℕ) → x < 8 → get_or earlier x 0 ≤ get_or row (next x false) 0 + 12288) →
    IsBackTo v earlier (set out k e) k
back_step v row earlier forward out k sum parity e zeros ones small short known is_forward s p by_zero by_one e_is step growth =
    let n : ℕ = length v.systematic - suc k in
    let size : k + suc n ≡ length v.systematic = omega (arith, known.index) in
    let n_is : length v.systematic - k ≡ suc n = omega (arith, known.index) in
    let inner : (pos ones -ℤ pos zeros) -ℤ sum ≡ (((pos (worth v) -ℤ pos zeros) -ℤ (pos (worth v) -ℤ pos ones)) -ℤ at v.systematic k) -ℤ at v.prior k
    = omega (arith, ints, s) in
    let greatest_zero = through_greatest v k n forward row sum parity false zeros small size short is_forward known.least s p by_zero in
    let greatest_one = through_greatest v k n forward row sum parity true ones small size short is_forward known.least s p by_one in
    record {
      size = length-set out k e ∙ known.size;
      index = omega (arith, known.index);
      least = λ x below. rw n_is (step x below ∙
          rw (← known.least (next x false) (next_below x false below), ← known.least (next x true) (next_below x true below), ← s, ← p) refl);
      room = λ x below. let g = growth x below in let r = known.room (next x false) (next_below x false below) in omega (arith, g, r, known.index);
      done = λ j from to. elim (cases_lt k j) [
        | inl later ↦ let ne : j ≢ k = omega arith in rw (get_or-set_other out k j e (pos 0) ne) (known.done j later to)
        | inr here ↦
            let j_is : j ≡ k = omega arith in
            let inside : k < length out = omega (arith, known.size, known.index) in
            rw (j_is, get_or-set_same out k e (pos 0) inside)
            (extrinsic_is v k (pos (worth v) -ℤ pos zeros) (pos (worth v) -ℤ pos ones) e (omega (arith, size)) greatest_zero greatest_one (e_is ∙ ap within_2047 inner))
      ];
    }

-- at index 0, all extrinsic values are final
pub back_all : (v : Values) (row : List ℕ) (out : List ℤ) (k : ℕ) → k ≤ 0 → IsBackTo v row out k → out ≡ extrinsics v
unfolding extrinsics
back_all v row out k none known =
    values_below_is (pos 0) (length v.systematic) (extrinsic v) out known.size (λ j below. known.done j (omega (arith, none)) below)

-- the forward recursion's rows do not depend on the tail
pub forward_row_of : (s p t q : List ℤ) (rows : List (List ℕ)) (n k : ℕ) → HasRows (values_of s p [] q) rows n → k ≤ n →
    IsForwardRow (values_of s p t q) k (get_or rows k [])
forward_row_of s p t q rows n k has inside = record {
  least = (has.row k inside).least;
  room = (has.row k inside).room;
}
