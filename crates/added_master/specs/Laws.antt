-- Laws of the MIB from added frames. (own)
use Rattle.std.specs.Prelude.{◌≡◌, ℕ, ◌*◌, ◌^◌, ◌≤◌, Bool, List, ℤ, Option}
use Rattle.accumulated_sss.specs.Patterns.{coincidences}
use Rattle.added_master.specs.declared.master.AddedMaster.{AddedMaster}
use Rattle.added_master.specs.Master.{DecodesAdded, sign_of_bit, sign_of_sum}
use Rattle.added_master.specs.Choice.{IsMasterOf}

-- ---- one answer

-- added sums decode to at most one MIB with a given port count and phase
abbrev pub OnlyOneDecoded : Type 0
OnlyOneDecoded = (sums : List (List ℤ)) (a b : AddedMaster) → DecodesAdded sums a → DecodesAdded sums b →
    a.ports ≡ b.ports → a.phase ≡ b.phase → a ≡ b

-- a position has only one answer: one MIB, or none
abbrev pub OnlyOneMaster : Type 0
OnlyOneMaster = (identity : ℕ) (frames : ℕ → List (List ℤ)) (a b : Option AddedMaster) →
    IsMasterOf identity frames a → IsMasterOf identity frames b → a ≡ b

-- ---- coincidences

-- how many patterns of 120 signs match given ones in at least 102 positions: the sum of the binomial coefficients of
-- 120 from 102 to 120
abbrev pub coincidence_count : ℕ
coincidence_count = 1313204944144981392715

-- whatever 120 signs a codeword has, this many patterns match them in at least 102 positions
abbrev pub CoincidencesAreCounted : Type 0
CoincidencesAreCounted = (coded : List (List Bool)) → coincidences 120 102 (sign_of_bit coded) ≡ coincidence_count

-- whatever 120 sums are received, at most this many patterns match their signs in at least 102 positions: not more if
-- some sums are 0
abbrev pub CoincidencesAreFew : Type 0
CoincidencesAreFew = (sums : List (List ℤ)) → coincidences 120 102 (sign_of_sum sums) ≤ coincidence_count

-- a MIB has 24 bits, of which three are one of six bandwidth codes: with three port counts and four phases there are
-- 150,994,944. This many times the count of patterns is at most one 6,700,000th of all patterns.
abbrev pub CoincidencesAreRare : Type 0
CoincidencesAreRare = 12 * (6 * 2 ^ 21) * 6700000 * coincidence_count ≤ 2 ^ 120
