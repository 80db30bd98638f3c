-- A word's cost at one position, from its codeword.
use Rattle.std.proofs.Common.{◌≡◌, ℕ, ◌<◌, Bool, false, List, [], length, get_or, ℤ, refl, ◌∙◌, ap}
use Rattle.finite.proofs.Lists.{values_below_at}
use Rattle.conv_code.specs.Code.{coded_bits, coded_word}
use Rattle.conv_code.specs.Cost.{cost_at, triple_cost}

pub coded_place : (values : List (List ℤ)) (word : List Bool) (coded : List (List Bool)) (k : ℕ) → coded ≡ coded_word word → k < length word →
    triple_cost (get_or values k []) (get_or (get_or coded k []) 0 false) (get_or (get_or coded k []) 1 false) (get_or (get_or coded k []) 2 false) ≡ cost_at values word k
unfolding coded_word
coded_place values word coded k e inside =
    let here = ap (λ c. get_or c k []) e ∙ values_below_at (coded_bits word) (length word) k [] inside in
    rw here refl
