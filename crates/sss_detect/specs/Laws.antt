-- Laws of the best and second-best pairs of an identity group and a half-frame. (own)
use Rattle.std.specs.Prelude.{◌≡◌, ℕ, ℤ}
use Rattle.lte_types.specs.declared.frame.Half.{Half}
use Rattle.sss_detect.specs.Identity.{IsBest, best_pair}
use Rattle.sss_detect.specs.Second.{IsSecond, second_pair}

-- a law: `best_pair` is the first pair of an identity group and a half-frame with the maximum score of all 336
abbrev pub BestPairIsBest : Type 0
BestPairIsBest = (scores : ℕ → Half → ℤ) → IsBest scores (best_pair scores).0 (best_pair scores).1

-- a law: only one pair of an identity group and a half-frame satisfies `IsBest`
abbrev pub OnlyOneIsBest : Type 0
OnlyOneIsBest =
    (scores : ℕ → Half → ℤ) (n1 : ℕ) (half : Half) → IsBest scores n1 half →
    (n1 ≡ (best_pair scores).0) × (half ≡ (best_pair scores).1)

-- a law: `second_pair` is the first pair of an identity group and a half-frame with the maximum score of the 335 other
-- than `best_pair`
abbrev pub SecondPairIsSecond : Type 0
SecondPairIsSecond =
    (scores : ℕ → Half → ℤ) → IsSecond scores (best_pair scores) (second_pair scores).0 (second_pair scores).1

-- a law: only one pair of an identity group and a half-frame satisfies `IsSecond`
abbrev pub OnlyOneIsSecond : Type 0
OnlyOneIsSecond =
    (scores : ℕ → Half → ℤ) (n1 : ℕ) (half : Half) → IsSecond scores (best_pair scores) n1 half →
    (n1, half) ≡ second_pair scores
