-- The MIB that added sums decode to: the word of minimum cost, if enough sums have the signs of its coded bits. (own;
-- TS 36.212 section 5.3.1, TS 36.331 section 6.2.2)
use Rattle.std.specs.Prelude.{◌≡◌, ℕ, ◌/◌, ◌%◌, ◌≤◌, cond, Bool, List, ℤ, pos, negsuc}
use Rattle.std.specs.Int.{int_signum}
use Rattle.finite.specs.Tables.{sum_at}
use Rattle.cs_bits.specs.Numbers.{field}
use Rattle.conv_code.specs.Code.{coded_word}
use Rattle.tailbite.specs.LeastWord.{IsLeastWord}
use Rattle.pbch.specs.Master.{PassesWith, Carries}
use Rattle.accumulated_sss.specs.Signs.{matches}
use Rattle.added_master.specs.Sums.{bit_in}
use Rattle.added_master.specs.declared.master.AddedMaster.{AddedMaster}

-- the sign of sum `i` of 120: 1, 0 or -1
abbrev pub sign_of_sum : List (List ℤ) → ℕ → ℤ
sign_of_sum sums i = int_signum (sum_at sums (i / 3) (i % 3))

-- the sign of coded bit `i` of 120: 1 for the bit 0, -1 for the bit 1
abbrev pub sign_of_bit : List (List Bool) → ℕ → ℤ
sign_of_bit coded i = cond (bit_in coded (i / 3) (i % 3)) (negsuc 0) (pos 1)

-- how many of the 120 sums have the sign of their coded bit in the codeword of `word`
abbrev pub matches_of : List (List ℤ) → List Bool → ℕ
matches_of sums word = matches 120 (sign_of_sum sums) (sign_of_bit (coded_word word))

-- the least number of matches of a MIB
abbrev pub least_matches : ℕ
least_matches = 102

-- `master` has these antenna ports, phase and upper frame number bits
abbrev pub IsCandidate : ℕ → ℕ → ℕ → AddedMaster → Type 0
IsCandidate ports phase upper master = (master.ports ≡ ports) × (master.phase ≡ phase) × (master.mib.upper ≡ upper)

-- added sums decode to the MIB `master`: the word of minimum cost has at least 102 matches, its CRC passes with the
-- mask for the port count, and its bandwidth code is valid
pub record DecodesAdded (sums : List (List ℤ)) (master : AddedMaster) : Type 0 where
  pub word : List Bool
  pub least : IsLeastWord sums word
  pub matches : master.matches ≡ matches_of sums word
  pub enough : least_matches ≤ master.matches
  pub check : PassesWith master.ports word
  pub width : field word 0 3 ≤ 5
  pub mib : Carries word master.mib
