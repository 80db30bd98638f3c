-- The first entry in a list that can be cancelled.
use Rattle.std.proofs.Common.{◌≡◌, suc, arith, refl, List, ◌∷◌}
use Rattle.std.specs.List.{Contains}
use Rattle.lte_types.specs.declared.entry.Entry.{Entry}

pub at_front : (x : Entry) (xs : List Entry) → Contains (x ∷ xs) x
at_front x xs = (0, omega arith, refl)

pub behind : (x y : Entry) (xs : List Entry) → Contains xs y → Contains (x ∷ xs) y
behind x y xs inside = let low = inside.1 in (suc inside.0, omega (arith, low), inside.2)

pub heads : (x y : Entry) (xs ys : List Entry) → x ∷ xs ≡ y ∷ ys → x ≡ y
heads x y xs ys e = cc

pub tails : (x y : Entry) (xs ys : List Entry) → x ∷ xs ≡ y ∷ ys → xs ≡ ys
tails x y xs ys e = cc
