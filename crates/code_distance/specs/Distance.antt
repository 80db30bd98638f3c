-- The minimum distance of the tail-biting convolutional code, and what it says about soft values: if the values fall
-- short of some level by less than 15 times this level in all, the sent word is the only one of minimum cost. (own; the
-- code is in TS 36.212 section 5.1.3.1)
use Rattle.std.specs.Prelude.{◌≡◌, ℕ, ◌+◌, ◌-◌, ◌*◌, ◌<◌, ◌≤◌, Bool, not, cond, List, length, nat_abs, ℤ}
use Rattle.finite.specs.Bits.{xor}
use Rattle.finite.specs.Sums.{total_below}
use Rattle.finite.specs.Tables.{sum_at}
use Rattle.cs_bits.specs.Signs.{disagreement}
use Rattle.conv_code.specs.Code.{tapped_bit, taps_0, taps_1, taps_2}
use Rattle.conv_code.specs.Cost.{word_cost}
use Rattle.tailbite.specs.LeastWord.{IsLeastWord}

-- 1 if two bits differ, otherwise 0
abbrev pub differ : Bool → Bool → ℕ
differ a b = cond (xor a b) 1 0

-- the number of coded bits at index k, of three, in which two words differ
abbrev pub differ_at : List Bool → List Bool → ℕ → ℕ
differ_at u w k =
    differ (tapped_bit taps_0 u k) (tapped_bit taps_0 w k) + differ (tapped_bit taps_1 u k) (tapped_bit taps_1 w k)
    + differ (tapped_bit taps_2 u k) (tapped_bit taps_2 w k)

-- the number of coded bits in which two words of equal length differ
unfoldable pub distance : List Bool → List Bool → ℕ
distance u w = total_below (length u) (differ_at u w)

-- a law: different words of equal length, at least 22 bits, differ in at least 15 coded bits
abbrev pub IsFifteenApart : Type 0
IsFifteenApart =
    (u w : List Bool) → 22 ≤ length u → length u ≡ length w → (u ≡ w → ⊥) → 15 ≤ distance u w

-- the amount by which a soft value, taken in the direction of its bit, is below a level; 0 if it is not below
abbrev pub shortfall : ℕ → ℤ → Bool → ℕ
shortfall level z b = (level + disagreement z b) - disagreement z (not b)

-- the shortfalls of the three values at index k
abbrev pub shortfall_at : ℕ → List (List ℤ) → List Bool → ℕ → ℕ
shortfall_at level values word k =
    shortfall level (sum_at values k 0) (tapped_bit taps_0 word k)
    + shortfall level (sum_at values k 1) (tapped_bit taps_1 word k)
    + shortfall level (sum_at values k 2) (tapped_bit taps_2 word k)

-- the shortfalls of all soft values in the direction of a word's coded bits, added up
unfoldable pub word_shortfall : ℕ → List (List ℤ) → List Bool → ℕ
word_shortfall level values word = total_below (length values) (shortfall_at level values word)

-- The soft values outweigh every word other than `word`: there is a level of which they fall short by less than 15 times
-- the level in all. (This holds if and only if the sum of the 15 smallest values, each taken in the direction of its
-- coded bit, is above 0.)
pub record Outweigh (values : List (List ℤ)) (word : List Bool) : Type 0 where
  pub level : ℕ
  pub short : word_shortfall level values word < 15 * level

-- a law: every other word costs more than `word`, by at least 15 times the level less the shortfall
abbrev pub OthersCostMore : Type 0
OthersCostMore =
    (values : List (List ℤ)) (word other : List Bool) (level : ℕ) → 22 ≤ length values →
    length word ≡ length values → length other ≡ length values → (other ≡ word → ⊥) →
    word_cost values word + 15 * level ≤ word_cost values other + word_shortfall level values word

-- a law: if the soft values outweigh every other word, this word is the only one of minimum cost
abbrev pub OutweighingIsLeast : Type 0
OutweighingIsLeast =
    (values : List (List ℤ)) (word : List Bool) → 22 ≤ length values → length word ≡ length values →
    Outweigh values word → IsLeastWord values word

-- the sum of the magnitudes of all values
unfoldable pub strength : List (List ℤ) → ℕ
strength values =
    total_below (length values)
    (λ k. nat_abs (sum_at values k 0) + nat_abs (sum_at values k 1) + nat_abs (sum_at values k 2))

-- a law: this word then costs at most a quarter of the sum of the magnitudes, and this sum is not 0
abbrev pub OutweighingIsClear : Type 0
OutweighingIsClear =
    (values : List (List ℤ)) (word : List Bool) → 22 ≤ length values → Outweigh values word →
    (4 * word_cost values word ≤ strength values) × (0 < strength values)
