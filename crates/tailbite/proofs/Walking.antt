-- A walk by the bits at positions and states: its loop invariant.
use Rattle.std.proofs.Common.{◌≡◌, ℕ, suc, ◌+◌, ◌-◌, ◌*◌, ◌^◌, ◌<◌, ◌≤◌, Bool, true, false, cond, refl, sym, ◌∙◌, arith}
use mir.Val.{bool_byte}
use Rattle.std.proofs.Math.Nat.{pow-suc}
use Rattle.cs_bits.specs.Numbers.{number}
use Rattle.trellis.specs.Paths.{end_of, walked}
use Rattle.trellis.proofs.Walks.{length-walked}
use Rattle.tailbite.specs.Machine.{shift}
use Rattle.tailbite.proofs.Windows.{shift_below}

-- after k of n bits: their number, the state after them, and the rest of the walk from there
pub record IsWalkAt (bit_at : ℕ → ℕ → Bool) (n start k word state : ℕ) : Type 0 where
  pub state_below : state < 64
  pub small : word < 2 ^ k
  pub word_is : number (walked shift bit_at 0 n start) ≡ word * 2 ^ (n - k) + number (walked shift bit_at k (n - k) state)
  pub end_is : end_of shift start (walked shift bit_at 0 n start) ≡ end_of shift state (walked shift bit_at k (n - k) state)

pub walk_begins : (bit_at : ℕ → ℕ → Bool) (n start : ℕ) → start < 64 → IsWalkAt bit_at n start 0 0 start
walk_begins bit_at n start below =
    let all : n - 0 ≡ n = omega arith in
    record {
      state_below = below;
      small = omega arith;
      word_is = rw all (let e : number (walked shift bit_at 0 n start) ≡ 0 * 2 ^ n + number (walked shift bit_at 0 n start) = omega arith in e);
      end_is = rw all refl;
    }

shifted : (word m size : ℕ) (b : Bool) (rest : ℕ) → size ≡ m → word * 2 ^ suc m + (cond b (2 ^ size) 0 + rest) ≡ (2 * word + bool_byte b) * 2 ^ m + rest
shifted word m size false rest e = let p = pow-suc 2 m in rw p (let h : word * (2 ^ m * 2) + (0 + rest) ≡ (2 * word + 0) * 2 ^ m + rest = grind arith in h)
shifted word m size true rest e = let p = pow-suc 2 m in rw (p, e) (let h : word * (2 ^ m * 2) + (2 ^ m + rest) ≡ (2 * word + 1) * 2 ^ m + rest = grind arith in h)

bit_small : (word k : ℕ) (b : Bool) → word < 2 ^ k → 2 * word + bool_byte b < 2 ^ suc k
bit_small word k false h = let p = pow-suc 2 k in omega (arith, p, h)
bit_small word k true h = let p = pow-suc 2 k in omega (arith, p, h)

pub walk_more : (bit_at : ℕ → ℕ → Bool) (n start k word state : ℕ) → k < n → IsWalkAt bit_at n start k word state →
    IsWalkAt bit_at n start (k + 1) (2 * word + bool_byte (bit_at k state)) (shift state (bit_at k state))
walk_more bit_at n start k word state inside known =
    let one : k + 1 ≡ suc k = omega arith in
    let left : n - k ≡ suc (n - suc k) = omega (arith, inside) in
    let b = bit_at k state in
    rw one (record {
      state_below = shift_below state b known.state_below;
      small = bit_small word k b known.small;
      word_is =
          (rw left at known.word_is)
          ∙ shifted word (n - suc k) _ b _ (length-walked shift bit_at (suc k) (n - suc k) (shift state b));
      end_is = rw left at known.end_is;
    })

pub walk_ends : (bit_at : ℕ → ℕ → Bool) (n start k word state : ℕ) → n ≤ k → IsWalkAt bit_at n start k word state →
    (word ≡ number (walked shift bit_at 0 n start)) × (state ≡ end_of shift start (walked shift bit_at 0 n start))
walk_ends bit_at n start k word state done known =
    let none : n - k ≡ 0 = omega (arith, done) in
    let w = rw none at known.word_is in
    let e = rw none at known.end_is in
    (omega (arith, w), sym e)
