-- Fields whose names ascend stand in an object in their order.
use Rattle.std.proofs.Common.{◌≡◌, ◌∙◌, ℕ, List, [], ◌∷◌, Less, Greater, map, refl, sym, ap, nat_cmp}
use Rattle.std.proofs.lemmas.Cmp.{nat_list_cmp_total}
use Rattle.std.specs.Cmp.Lexicographic.{slice_cmp}
use Rattle.std.specs.List.{AllByRecursion}
use Rattle.std.specs.List.Sorted.{IsStrictlySortedBy}
use Rattle.std.specs.Ordering.{ordering_reverse}
use Rattle.serde_json.specs.Data.{Data, object, Members, no_members, member, put}
use Rattle.report_parts.specs.Fields.{NamedData, put_fields, members_in, AreAscending, AscendingFieldsStandInOrder}

-- members, followed by further ones
abbrev joined : Members → Members → Members
joined no_members more = more
joined (member k d ms) more = member k d (joined ms more)

joined_none : (ms : Members) → joined ms no_members ≡ ms
joined_none no_members = refl
joined_none (member k d ms) = ap (member k d) (joined_none ms)

joined_one : (ms more : Members) (k : List ℕ) (d : Data) → joined (joined ms (member k d no_members)) more ≡ joined ms (member k d more)
joined_one no_members more k d = refl
joined_one (member l e ms) more k d = ap (member l e) (joined_one ms more k d)

-- each name of the members is less than `k`
abbrev AreBelow : Members → List ℕ → Type 0
AreBelow no_members k = Unit {0}
AreBelow (member l e ms) k = (slice_cmp nat_cmp l k ≡ Less) × AreBelow ms k

-- a name above all others goes last
put_last : (ms : Members) (k : List ℕ) (d : Data) → AreBelow ms k → put k d ms ≡ joined ms (member k d no_members)
put_last no_members k d below = refl
put_last (member l e ms) k d below =
    let above : slice_cmp nat_cmp k l ≡ Greater = nat_list_cmp_total.antisymm k l ∙ ap ordering_reverse below.0 in
    rw above (ap (member l e) (put_last ms k d below.1))

below_joined : (ms : Members) (k name : List ℕ) (d : Data) → AreBelow ms name → slice_cmp nat_cmp k name ≡ Less → AreBelow (joined ms (member k d no_members)) name
below_joined no_members k name d below less = (less, tt)
below_joined (member l e ms) k name d below less = (below.0, below_joined ms k name d below.1 less)

all_below : (names : List (List ℕ)) (ms : Members) (k : List ℕ) (d : Data) → AllByRecursion (AreBelow ms) names → AllByRecursion (λ name. slice_cmp nat_cmp k name ≡ Less) names →
    AllByRecursion (AreBelow (joined ms (member k d no_members))) names
all_below [] ms k d below less = tt
all_below (name ∷ names) ms k d below less = (below_joined ms k name d below.0 less.0, all_below names ms k d below.1 less.1)

none_below : (names : List (List ℕ)) → AllByRecursion (AreBelow no_members) names
none_below [] = tt
none_below (name ∷ names) = (tt, none_below names)

stand_after : (fields : List NamedData) (ms : Members) → AllByRecursion (AreBelow ms) (map (λ (field : NamedData). field.0) fields) → AreAscending fields →
    put_fields fields ms ≡ joined ms (members_in fields)
unfolding IsStrictlySortedBy
stand_after [] ms below ascend = sym (joined_none ms)
stand_after (field ∷ rest) ms below ascend =
    let more = joined ms (member field.0 field.1 no_members) in
    ap (put_fields rest) (put_last ms field.0 field.1 below.0)
    ∙ stand_after rest more (all_below (map (λ (f : NamedData). f.0) rest) ms field.0 field.1 below.1 ascend.0) ascend.1
    ∙ joined_one ms (members_in rest) field.0 field.1

pub ascending_fields : AscendingFieldsStandInOrder
ascending_fields fields ascend = ap object (stand_after fields no_members (none_below (map (λ (f : NamedData). f.0) fields)) ascend)
