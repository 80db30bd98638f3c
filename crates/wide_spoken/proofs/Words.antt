-- If each soft value of a candidate has the sign of its coded bit, the search finds the grant that the word conveys.
use Rattle.std.proofs.Common.{◌≡◌, ◌∙◌, ℕ, ◌+◌, ◌≤◌, Bool, List, length, ℤ, Option, Some, None, ap, sym, subst, arith}
use Rattle.conv_code.specs.Reading.{item_of, summed}
use Rattle.conv_code.proofs.Sums.{length-summed_by}
use Rattle.tailbite.specs.LeastWord.{IsLeastWord}
use Rattle.tailbite.specs.Clean.{Speaks}
use Rattle.tailbite.proofs.Only.{only_least}
use Rattle.clean_air.specs.Words.{SpeakInOrder}
use Rattle.clean_air.proofs.SpokenWords.{sums_speak}
use Rattle.wide_grid.specs.Control.{element_count}
use Rattle.wide_grant.specs.declared.grant.WideGrant.{WideGrant}
use Rattle.wide_slot.specs.Slot.{WideSeen}
use Rattle.wide_control.specs.declared.format.DciFormat.{DciFormat}
use Rattle.wide_control.specs.Format.{payload_size}
use Rattle.wide_control.specs.Offer.{Conveys, Gives, IsOffer}
use Rattle.wide_control.specs.Values.{candidate_values, ordered_groups}
use Rattle.wide_control.specs.Control.{Finds}
use Rattle.wide_spoken.specs.Sent.{Sent, IsControlSent}
use Rattle.wide_spoken.specs.Spoken.{IsControlSpoken}
use Rattle.wide_spoken.proofs.Sizes.{payload_few, IsInside, length-candidate}

-- a word that conveys a grant gives this grant
given_is : (blocks sfn : ℕ) (format : DciFormat) (word : List Bool) (grant : WideGrant) (found : Option WideGrant) →
    Conveys blocks sfn format word grant → Gives blocks sfn format word found → found ≡ Some grant
given_is blocks sfn format word grant (Some other) conveys gives =
    let same : ◌≡◌ {A = WideGrant} other grant = let both = sym gives.grants ∙ conveys.grants in cc in ap (λ (g : WideGrant). Some g) same
given_is blocks sfn format word grant None conveys gives = absurd (gives grant conveys)

-- the minimum-cost word for values with a word's signs is the word
least_is : (word least : List Bool) (values : List ℤ) → 6 ≤ length word → length word ≤ 64 → SpeakInOrder word values →
    IsLeastWord (summed (length word) values) least → least ≡ word
least_is word least values long short speak is =
    let speaks : Speaks (summed (length word) values) word = sums_speak word values long short speak in
    let count : length (summed (length word) values) ≡ length word = length-summed_by (item_of (length word)) (length word) values in
    only_least (summed (length word) values) word least (omega (arith, count, long)) (sym count) speaks is

offered_is : (blocks sfn : ℕ) (values : List ℤ) (format : DciFormat) (word : List Bool) (grant : WideGrant) (found : Option WideGrant) →
    6 ≤ length word → length word ≤ 64 → length word ≡ payload_size blocks format + 16 → SpeakInOrder word values →
    Conveys blocks sfn format word grant → IsOffer blocks sfn values format found → found ≡ Some grant
offered_is blocks sfn values format word grant found long short size speak conveys offer =
    let least : IsLeastWord (summed (length word) values) offer.word = subst (λ n. IsLeastWord (summed n values) offer.word) (sym size) offer.least in
    let same : offer.word ≡ word = least_is word offer.word values long short speak least in
    given_is blocks sfn format word grant found conveys (subst (λ w. Gives blocks sfn format w found) same offer.gives)

-- the sent search finds the sent grant
pub found_is : (slot : WideSeen) (sfn : ℕ) (sent : Sent) (found : Option WideGrant) → IsControlSent slot.cell sfn sent →
    IsInside (element_count slot.cell sent.cfi) sent.search → IsControlSpoken slot sent →
    Finds slot sfn (ordered_groups slot.cell sent.cfi) sent.search found → found ≡ Some sent.grant
found_is slot sfn sent found control inside spoken finds =
    let few = payload_few slot.cell.blocks sent.search.format in
    let low = few.0 in
    let high = few.1 in
    let size = control.size in
    let level = inside.level in
    let count = length-candidate slot sent.cfi sent.search.candidate inside.ends in
    offered_is slot.cell.blocks sfn (candidate_values slot (ordered_groups slot.cell sent.cfi) sent.search.candidate) sent.search.format sent.word sent.grant found
    (omega (arith, size, low)) (omega (arith, size, high)) size
    (record { enough = omega (arith, size, high, level, count); value = spoken.word }) control.conveys finds
