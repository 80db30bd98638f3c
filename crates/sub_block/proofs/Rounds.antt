-- Bounds on the sums: in q rounds of a cyclic bit order, each item occurs at most q times.
use Rattle.std.proofs.Common.{◌≡◌, ℕ, zero, suc, ◌+◌, ◌-◌, ◌*◌, ◌<◌, ◌≤◌, List, length, get_or, ℤ, pos, nat_abs, arith, sym, subst, ◌∙◌}
use Rattle.std.proofs.lemmas.List.Elements.{All-get_or}
use Rattle.std.proofs.Math.Nat.{mul-le-mul_right}
use Rattle.finite.specs.Sizes.{AllWithin}
use Rattle.finite.proofs.Counts.{count_below, count_once, count_split, sum_of_passing-within}
use Rattle.sub_block.specs.declared.Item.{Item}
use Rattle.sub_block.specs.Items.{is_at, summed_at}
use Rattle.sub_block.proofs.Sums.{same_item}

-- the order repeats after `whole` bits, which are all different
pub record GoesRound (whole : ℕ) (reading : ℕ → Item) : Type 0 where
  pub again : (q i : ℕ) → i < whole → reading (q * whole + i) ≡ reading i
  pub once : (i j : ℕ) → i < whole → j < whole → reading i ≡ reading j → i ≡ j

-- an item occurs at most once per round
once_a_round : (whole : ℕ) (reading : ℕ → Item) (q t p : ℕ) → GoesRound whole reading →
    count_below whole (λ i. is_at t p (reading (q * whole + i))) ≤ 1
once_a_round whole reading q t p round =
    count_once whole (λ i. is_at t p (reading (q * whole + i)))
    (λ i j hi hj pi pj. round.once i j hi hj
    (sym (round.again q i hi) ∙ same_item (reading (q * whole + i)) t p pi ∙ sym (same_item (reading (q * whole + j)) t p pj) ∙ round.again q j hj))

-- an item occurs at most q times in q rounds
in_whole_rounds : (whole : ℕ) (reading : ℕ → Item) (q t p : ℕ) → GoesRound whole reading →
    count_below (q * whole) (λ i. is_at t p (reading i)) ≤ q
unfolding count_below
in_whole_rounds whole reading zero t p round =
    let none : 0 * whole ≡ 0 = grind arith in
    subst (λ m. count_below m (λ i. is_at t p (reading i)) ≤ 0) (sym none) (omega arith)
in_whole_rounds whole reading (suc q) t p round =
    let before = in_whole_rounds whole reading q t p round in
    let here = once_a_round whole reading q t p round in
    let split = count_split (q * whole) whole (λ i. is_at t p (reading i)) in
    let more : suc q * whole ≡ q * whole + whole = grind arith in
    subst (λ m. count_below m (λ i. is_at t p (reading i)) ≤ suc q) (sym more) (omega (arith, before, here, split))

-- an item occurs at most q times in up to q * whole bits
in_rounds : (whole : ℕ) (reading : ℕ → Item) (m q t p : ℕ) → GoesRound whole reading → m ≤ q * whole →
    count_below m (λ i. is_at t p (reading i)) ≤ q
in_rounds whole reading m q t p round few =
    let e : m + (q * whole - m) ≡ q * whole = omega (arith, few) in
    let all = subst (λ x. count_below x (λ i. is_at t p (reading i)) ≤ q) (sym e) (in_whole_rounds whole reading q t p round) in
    let split = count_split m (q * whole - m) (λ i. is_at t p (reading i)) in
    omega (arith, all, split)

-- if the values fill at most q rounds, each sum is at most q times the maximum magnitude
pub summed_at-small : (whole : ℕ) (reading : ℕ → Item) (values : List ℤ) (bound q : ℕ) → GoesRound whole reading →
    AllWithin bound values → length values ≤ q * whole → (t p : ℕ) → nat_abs (summed_at reading values (length values) t p) ≤ q * bound
unfolding summed_at
summed_at-small whole reading values bound q round small few t p =
    let each : (i : ℕ) → i < length values → nat_abs (get_or values i (pos 0)) ≤ bound =
    λ i below. All-get_or (λ z. nat_abs z ≤ bound) values i (pos 0) below small in
    let sum = sum_of_passing-within (length values) bound (λ i. is_at t p (reading i)) (λ i. get_or values i (pos 0)) each in
    let rounds = in_rounds whole reading (length values) q t p round few in
    let times = mul-le-mul_right bound rounds in
    omega (arith, sum, times)
