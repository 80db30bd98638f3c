-- End costs when only one state is free.
use Rattle.std.proofs.Common.{◌≡◌, ℕ, ◌≤◌, true, false, cond, refl, arith}
use Rattle.std.specs.Prelude.{nat_eq}
use Rattle.std.proofs.lemmas.Bool.{eq-eqb}
use Rattle.trellis.specs.Least.{ends_in}

pub ends_in_same : (far s x : ℕ) → x ≡ s → ends_in far s x ≡ 0
ends_in_same far s x e = rw (eq-eqb x s e) refl

pub ends_in_other : (far s x : ℕ) → nat_eq x s ≡ false → ends_in far s x ≡ far
ends_in_other far s x e = rw e refl

pub ends_in-le : (far s x : ℕ) → ends_in far s x ≤ far
ends_in-le far s x = elim (nat_eq x s) as (λ t. cond t 0 far ≤ far) [ true ↦ omega arith | false ↦ omega arith ]
