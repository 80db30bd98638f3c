-- Values without floating-point numbers.
use Rattle.std.proofs.Common.{◌≡◌, List, [], ◌∷◌, ◌++◌, ℕ, Ordering, Less, Equal, Greater, false, refl, nat_cmp}
use Rattle.std.proofs.lemmas.Bool.{or_from, or_parts}
use Rattle.std.specs.Cmp.Lexicographic.{slice_cmp}
use Rattle.std.specs.Ordering.{match_ordering}
use Rattle.serde_json.specs.Data.{Data, Members, no_members, member, put}
use Rattle.serde_json.specs.View.{items_of}
use Rattle.serde_json.specs.Written.{has_float, items_have_float, members_have_float}

by_ordering : (o : Ordering) (a b c : Members) → members_have_float a ≡ false → members_have_float b ≡ false → members_have_float c ≡ false →
    members_have_float (match_ordering o a b c) ≡ false
by_ordering Less a b c p q r = p
by_ordering Equal a b c p q r = q
by_ordering Greater a b c p q r = r

-- members with one more value
pub no_float_put : (k : List ℕ) (d : Data) (ms : Members) → has_float d ≡ false → members_have_float ms ≡ false → members_have_float (put k d ms) ≡ false
no_float_put k d no_members whole rest = or_from _ _ whole refl
no_float_put k d (member l e ms) whole rest =
    let parts = or_parts _ _ rest in
    by_ordering (slice_cmp nat_cmp k l) (member k d (member l e ms)) (member l d ms) (member l e (put k d ms))
    (or_from _ _ whole rest) (or_from _ _ whole parts.1) (or_from _ _ parts.0 (no_float_put k d ms whole parts.1))

-- a list with one more item
pub no_float_push : (ds : List Data) (d : Data) → items_have_float (items_of ds) ≡ false → has_float d ≡ false → items_have_float (items_of (ds ++ d ∷ [])) ≡ false
no_float_push [] d rest whole = or_from _ _ whole refl
no_float_push (e ∷ ds) d rest whole = let parts = or_parts _ _ rest in or_from _ _ parts.0 (no_float_push ds d parts.1 whole)
