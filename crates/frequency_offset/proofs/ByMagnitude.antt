-- The integers by magnitude.
use Rattle.std.proofs.Common.{◌≡◌, ℕ, ◌+◌, ◌*◌, ◌/◌, ◌%◌, ◌≤◌, Bool, true, false, nat_eq, arith, refl, pos, negsuc}
use Rattle.std.proofs.lemmas.Bool.Decides.{nat_tests}
use borrow.Author.Differences.{up, down}
use Rattle.std.specs.Prelude.{if◌then◌else◌}
use Rattle.frequency_offset.specs.Order.{by_magnitude}

pub by_magnitude_even : (k : ℕ) → k % 2 ≡ 0 → by_magnitude k ≡ pos (k / 2)
unfolding by_magnitude
by_magnitude_even k e = let t : nat_eq (k % 2) 0 ≡ true = grind (arith, nat_tests) in rw t refl

pub by_magnitude_odd : (k : ℕ) → (k % 2 ≡ 0 → ⊥) → by_magnitude k ≡ negsuc (k / 2)
unfolding by_magnitude
by_magnitude_odd k e = let t : nat_eq (k % 2) 0 ≡ false = grind (arith, nat_tests) in rw t refl

-- twice the positive part is at most k, and twice the negative part at most k + 1
pub by_magnitude_between : (k : ℕ) → (2 * up (by_magnitude k) ≤ k) × (2 * down (by_magnitude k) ≤ k + 1)
unfolding by_magnitude
by_magnitude_between k = settle (nat_eq (k % 2) 0) refl
  where
    settle : (b : Bool) → nat_eq (k % 2) 0 ≡ b → (2 * up (if b then pos (k / 2) else negsuc (k / 2)) ≤ k) × (2 * down (if b then pos (k / 2) else negsuc (k / 2)) ≤ k + 1)
    settle true e = (omega arith, omega arith)
    settle false e = let odd : 1 ≤ k % 2 = grind (arith, nat_tests) in (omega arith, omega arith)
