-- Laws on the code and rate matching. (own; both are in TS 36.212 sections 5.1.3.1 and 5.1.4.2)
use Rattle.std.specs.Prelude.{◌≡◌, ℕ, ◌*◌, ◌≤◌, Bool, List, length}
use Rattle.sub_block.specs.Items.{ReadsEachOnce}
use Rattle.conv_code.specs.Code.{coded_word}
use Rattle.conv_code.specs.Reading.{reading, item_of}

-- words of equal length, at least 6, with the same codeword are equal
abbrev pub IsOneToOne : Type 0
IsOneToOne = (u w : List Bool) → 6 ≤ length u → length u ≡ length w → coded_word u ≡ coded_word w → u ≡ w

-- rate matching of three streams of `n` bits repeats after 3n bits, among which each coded bit occurs once
pub record ReadsEachItemOnce (n : ℕ) : Type 0 where
  pub count : length (reading n) ≡ 3 * n
  pub reads : ReadsEachOnce n (item_of n)

-- for n from 6 to 64, one period of rate matching contains each of the 3n coded bits once
abbrev pub IsPermuting : Type 0
IsPermuting = (n : ℕ) → 6 ≤ n → n ≤ 64 → ReadsEachItemOnce n
