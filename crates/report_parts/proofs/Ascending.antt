-- The names of an object ascend.
use Rattle.std.proofs.Common.{◌≡◌, ◌∙◌, ℕ, List, [], ◌∷◌, Ordering, Less, Equal, Greater, refl, ap, nat_cmp}
use Rattle.std.proofs.lemmas.Cmp.{nat_list_cmp_total}
use Rattle.std.specs.Cmp.Lexicographic.{slice_cmp}
use Rattle.std.specs.List.{AllByRecursion}
use Rattle.std.specs.List.Sorted.{IsStrictlySortedBy}
use Rattle.std.specs.Ordering.{ordering_reverse, match_ordering}
use Rattle.serde_json.specs.Data.{Data, Members, no_members, member, put}
use Rattle.report_parts.specs.Fields.{NamedData, put_fields, names_in, NamesOfObjectsAscend}

abbrev AreAbove : List ℕ → List (List ℕ) → Type 0
AreAbove k names = AllByRecursion (λ name. slice_cmp nat_cmp k name ≡ Less) names

above_all : (k l : List ℕ) (names : List (List ℕ)) → slice_cmp nat_cmp k l ≡ Less → AreAbove l names → AreAbove k names
above_all k l [] less above = tt
above_all k l (name ∷ names) less above = (nat_list_cmp_total.trans k l name less above.0, above_all k l names less above.1)

above_at : (o : Ordering) (j k l : List ℕ) (d e : Data) (ms : Members) → slice_cmp nat_cmp j k ≡ Less → slice_cmp nat_cmp j l ≡ Less → AreAbove j (names_in ms) → AreAbove j (names_in (put k d ms)) →
    AreAbove j (names_in (match_ordering o (member k d (member l e ms)) (member l d ms) (member l e (put k d ms))))
above_at Less j k l d e ms first second rest more = (first, (second, rest))
above_at Equal j k l d e ms first second rest more = (second, rest)
above_at Greater j k l d e ms first second rest more = (second, more)

above_put : (j k : List ℕ) (d : Data) (ms : Members) → slice_cmp nat_cmp j k ≡ Less → AreAbove j (names_in ms) → AreAbove j (names_in (put k d ms))
above_put j k d no_members first above = (first, tt)
above_put j k d (member l e ms) first above = above_at (slice_cmp nat_cmp k l) j k l d e ms first above.0 above.1 (above_put j k d ms first above.1)

ascend_at : (o : Ordering) (k l : List ℕ) (d e : Data) (ms : Members) → slice_cmp nat_cmp k l ≡ o → IsStrictlySortedBy (slice_cmp nat_cmp) (names_in (member l e ms)) →
    IsStrictlySortedBy (slice_cmp nat_cmp) (names_in (put k d ms)) →
    IsStrictlySortedBy (slice_cmp nat_cmp) (names_in (match_ordering o (member k d (member l e ms)) (member l d ms) (member l e (put k d ms))))
unfolding IsStrictlySortedBy
ascend_at Less k l d e ms is sorted more = ((is, above_all k l (names_in ms) is sorted.0), sorted)
ascend_at Equal k l d e ms is sorted more = sorted
ascend_at Greater k l d e ms is sorted more =
    let below : slice_cmp nat_cmp l k ≡ Less = nat_list_cmp_total.antisymm l k ∙ ap ordering_reverse is in
    (above_put l k d ms below sorted.0, more)

ascend_put : (k : List ℕ) (d : Data) (ms : Members) → IsStrictlySortedBy (slice_cmp nat_cmp) (names_in ms) → IsStrictlySortedBy (slice_cmp nat_cmp) (names_in (put k d ms))
unfolding IsStrictlySortedBy
ascend_put k d no_members sorted = (tt, tt)
ascend_put k d (member l e ms) sorted = ascend_at (slice_cmp nat_cmp k l) k l d e ms refl sorted (ascend_put k d ms sorted.1)

ascend_after : (fields : List NamedData) (ms : Members) → IsStrictlySortedBy (slice_cmp nat_cmp) (names_in ms) → IsStrictlySortedBy (slice_cmp nat_cmp) (names_in (put_fields fields ms))
ascend_after [] ms sorted = sorted
ascend_after (field ∷ rest) ms sorted = ascend_after rest (put field.0 field.1 ms) (ascend_put field.0 field.1 ms sorted)

pub names_ascend : NamesOfObjectsAscend
unfolding IsStrictlySortedBy
names_ascend fields = ascend_after fields no_members tt
