use Rattle.std.proofs.Common.{append_assoc, ◌≡◌, ◌≤◌, ◌++◌, ◌∷◌, [], List, ℤ, nat_abs, to_z, of_z, w32, arith, ◌∙◌}
use Rattle.std.proofs.lemmas.Int.{to_z-of_z, fits_signed_from_abs}
use Rattle.code_distance.proofs.separation.add_agreements.Goals as goal

kept : (x u : ℤ) → nat_abs x ≤ 1048576 → x ≡ u → to_z w32 (of_z w32 x) ≡ u
kept x u small same = to_z-of_z w32 x (fits_signed_from_abs w32 x (omega (arith, small))) ∙ same

three : (a b c d : List ℤ) (x y z u v w : ℤ) → b ≡ a ++ x ∷ [] → c ≡ b ++ y ∷ [] → d ≡ c ++ z ∷ [] → x ≡ u → y ≡ v → z ≡ w → d ≡ a ++ (u ∷ v ∷ w ∷ [])
three a b c d x y z u v w first second third is_u is_v is_w = rw (third, second, first, is_u, is_v, is_w) (simp append_assoc)

pub returns-clause-items : goal.returns-clause-items
returns-clause-items c =
    three _ _ _ _ _ _ _ _ _ _ c.push.ensures.items c.push-2.ensures.items c.push-3.ensures.items
    (kept _ _ c.agreement.ensures.magnitude c.agreement.ensures.value)
    (kept _ _ c.agreement-2.ensures.magnitude c.agreement-2.ensures.value)
    (kept _ _ c.agreement-3.ensures.magnitude c.agreement-3.ensures.value)
