-- The minimum-cost word is unique; if all values speak for a word, it is that word.
use Rattle.std.proofs.Common.{◌≡◌, ℕ, ◌<◌, inl, inr, Bool, List, [], length, get_or, ℤ, pos, refl, sym, ◌∙◌, arith, ap}
use Rattle.finite.specs.Sums.{total_below}
use Rattle.finite.specs.Lists.{values_below}
use Rattle.finite.proofs.Lists.{values_below_same}
use Rattle.finite.proofs.Sums.{total_zero, terms_zero}
use Rattle.conv_code.specs.Code.{tapped_bit, coded_bits, coded_word, taps_0, taps_1, taps_2}
use Rattle.cs_bits.specs.Signs.{disagreement}
use Rattle.cs_bits.proofs.Signs.{speaks_for_one}
use Rattle.conv_code.specs.Cost.{cost_at, word_cost}
use Rattle.conv_code.proofs.OneToOne.{one_to_one}
use Rattle.trellis.proofs.Words.{either_before}
use Rattle.trellis.proofs.Exists.{some_first_least}
use Rattle.tailbite.specs.Laws.{IsOneWord, IsSomeWord}
use Rattle.tailbite.specs.Clean.{Speaks, IsOnlyLeast}

-- a word's coded bits cost nothing if the values speak for them
pub free_place : (values : List (List ℤ)) (word : List Bool) → Speaks values word → (k : ℕ) → k < length values → cost_at values word k ≡ 0
free_place values word speaks k below =
    let here = speaks.place k below in
    let a = here.first.free in
    let b = here.second.free in
    let c = here.third.free in
    omega (arith, a, b, c)

-- a word that costs nothing at a position has the coded bits for which the values speak
pub same_place : (values : List (List ℤ)) (u word : List Bool) → Speaks values word → (k : ℕ) → k < length values → cost_at values u k ≡ 0 →
    coded_bits u k ≡ coded_bits word k
same_place values u word speaks k below h =
    let here = speaks.place k below in
    let v = get_or values k [] in
    let first : disagreement (get_or v 0 (pos 0)) (tapped_bit taps_0 u k) ≡ 0 = omega (arith, h) in
    let second : disagreement (get_or v 1 (pos 0)) (tapped_bit taps_1 u k) ≡ 0 = omega (arith, h) in
    let third : disagreement (get_or v 2 (pos 0)) (tapped_bit taps_2 u k) ≡ 0 = omega (arith, h) in
    let a = speaks_for_one _ _ _ here.first first in
    let b = speaks_for_one _ _ _ here.second second in
    let c = speaks_for_one _ _ _ here.third third in
    rw (a, b, c) refl

pub only_least : IsOnlyLeast
unfolding word_cost coded_word
only_least values word least long size speaks is =
    let zero_cost = total_zero (length values) (cost_at values word) (free_place values word speaks) in
    let no_more = is.least word size in
    let zero_least : total_below (length values) (cost_at values least) ≡ 0 = omega (arith, zero_cost, no_more) in
    let same_size : length least ≡ length word = is.size ∙ sym size in
    one_to_one least word (omega (arith, is.size)) same_size
    (values_below_same (length least) (coded_bits least) (coded_bits word) (λ k inside.
    let below : k < length values = omega (arith, is.size) in
    same_place values least word speaks k below (terms_zero (length values) (cost_at values least) zero_least k below))
    ∙ ap (λ n. values_below n (coded_bits word)) same_size)

-- there is only one minimum-cost word
pub one_word : IsOneWord
one_word values u w hu hw =
    elim (either_before u w (hu.size ∙ sym hw.size)) [
      | inl same ↦ same
      | inr other ↦ elim other [
        | inl before ↦ absurd (let less = hw.first u hu.size before in let least = hu.least w hw.size in omega (arith, less, least))
        | inr before ↦ absurd (let less = hu.first w hw.size before in let least = hw.least u hu.size in omega (arith, less, least))
      ]
    ]

pub some_word : IsSomeWord
some_word values =
    let (word, is) = some_first_least (length values) (word_cost values) in
    (word, record { size = is.size; least = is.least; first = is.first })
