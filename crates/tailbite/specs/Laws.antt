-- Laws of the minimum-cost word (own).
use Rattle.std.specs.Prelude.{◌≡◌, Bool, List, ℤ}
use Rattle.tailbite.specs.LeastWord.{IsLeastWord}

-- for given values, there is at most one minimum-cost word
abbrev pub IsOneWord : Type 0
IsOneWord = (values : List (List ℤ)) (u w : List Bool) → IsLeastWord values u → IsLeastWord values w → u ≡ w

-- for any values, there is a minimum-cost word
abbrev pub IsSomeWord : Type 0
IsSomeWord = (values : List (List ℤ)) → (word : List Bool) × IsLeastWord values word
