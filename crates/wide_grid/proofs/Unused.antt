-- The number of groups in a symbol that the PCFICH does not use.
use Rattle.std.proofs.Common.{ℕ, suc, ◌+◌, ◌-◌, ◌*◌, ◌/◌, ◌%◌, ◌<◌, ◌≡◌, inl, inr, Bool, true, false, not, nat_eq, List, [], ◌∷◌, filter, length, ap, refl, sym, ◌∙◌, subst, arith}
use Rattle.std.proofs.Math.Nat.{mod-lt}
use Rattle.std.proofs.lemmas.Bool.{eqb-true}
use Rattle.std.specs.List.{range_with_len}
use Rattle.std.proofs.lemmas.List.{length-map}
use Rattle.std.proofs.lemmas.List.FromFn.{length-range_with_len}
use Rattle.finite.specs.Lists.{values_below}
use Rattle.finite.specs.Tests.{every_below}
use Rattle.finite.proofs.Tests.{every_below_at}
use Rattle.grid_map.proofs.Kept.{filter-map}
use Rattle.wide_cell.specs.Cell.{Cell, IsBlockCount, IsCell}
use Rattle.wide_grid.specs.declared.group.WideReg.{WideReg}
use Rattle.wide_grid.specs.Group.{group, is_group_in, span, symbol_groups}
use Rattle.wide_grid.specs.Control.{free_groups, pcfich_group, pcfich_groups}

-- ---- symbol 0: the four PCFICH groups differ

-- the number of unused groups in symbol 0, for an identity that is r modulo twice the resource blocks
unfoldable unused : ℕ → ℕ → ℕ
unused blocks r =
    length (filter (λ g. not (is_group_in (values_below 4 (λ i. group 0 ((6 * r + 6 * (i * blocks / 2)) % (12 * blocks)))) g))
    (values_below (12 * blocks / 6) (λ n. group 0 (6 * n))))

unfoldable uses_four : ℕ → ℕ → Bool
uses_four blocks r = nat_eq (unused blocks r) (2 * blocks - 4)

four_6 : every_below 12 (uses_four 6) ≡ true
unfolding every_below uses_four unused
four_6 = refl

four_15 : every_below 30 (uses_four 15) ≡ true
unfolding every_below uses_four unused
four_15 = refl

four_25 : every_below 50 (uses_four 25) ≡ true
unfolding every_below uses_four unused
four_25 = refl

four_50 : every_below 100 (uses_four 50) ≡ true
unfolding every_below uses_four unused
four_50 = refl

four_75 : every_below 150 (uses_four 75) ≡ true
unfolding every_below uses_four unused
four_75 = refl

four_100 : every_below 200 (uses_four 100) ≡ true
unfolding every_below uses_four unused
four_100 = refl

-- a property of each block count
at_each : (P : ℕ → Type 0) → P 6 → P 15 → P 25 → P 50 → P 75 → P 100 → (blocks : ℕ) → IsBlockCount blocks → P blocks
at_each P a b c d e f blocks (inl is) = subst P (sym is) a
at_each P a b c d e f blocks (inr (inl is)) = subst P (sym is) b
at_each P a b c d e f blocks (inr (inr (inl is))) = subst P (sym is) c
at_each P a b c d e f blocks (inr (inr (inr (inl is)))) = subst P (sym is) d
at_each P a b c d e f blocks (inr (inr (inr (inr (inl is))))) = subst P (sym is) e
at_each P a b c d e f blocks (inr (inr (inr (inr (inr is))))) = subst P (sym is) f

unused_in_0 : (cell : Cell) → IsCell cell → length (free_groups cell 0) ≡ 2 * cell.blocks - 4
unfolding free_groups symbol_groups pcfich_groups unused uses_four
unused_in_0 cell valid =
    let all = at_each (λ n. every_below (2 * n) (uses_four n) ≡ true) four_6 four_15 four_25 four_50 four_75 four_100 cell.blocks valid.blocks in
    eqb-true _ _ (every_below_at (2 * cell.blocks) (uses_four cell.blocks) all (cell.identity % (2 * cell.blocks)) (mod-lt cell.identity (some valid)))
  where
    some : IsCell cell → 0 < 2 * cell.blocks
    some valid = at_each (λ n. 0 < 2 * n) (omega arith) (omega arith) (omega arith) (omega arith) (omega arith) (omega arith) cell.blocks valid.blocks

pub first_unused : (cell : Cell) (symbol : ℕ) → IsCell cell → symbol ≡ 0 →
    length (free_groups cell symbol) ≡ 12 * cell.blocks / span cell.ports symbol - 4
first_unused cell symbol valid first =
    subst (λ s. length (free_groups cell s) ≡ 12 * cell.blocks / span cell.ports s - 4) (sym first)
    (unused_in_0 cell valid ∙ omega arith)

-- ---- later symbols: the PCFICH has no groups there

all_pass : {X : Type 0} (p : X → Bool) → ((x : X) → p x ≡ true) → (xs : List X) → length (filter p xs) ≡ length xs
all_pass p passes [] = refl
all_pass p passes (x ∷ xs) = rw (passes x) (ap suc (all_pass p passes xs))

pub later_unused : (cell : Cell) (symbol : ℕ) → nat_eq symbol 0 ≡ false →
    length (free_groups cell symbol) ≡ 12 * cell.blocks / span cell.ports symbol
unfolding free_groups symbol_groups pcfich_groups
later_unused cell symbol later =
    let n = 12 * cell.blocks / span cell.ports symbol in
    let f : ℕ → WideReg = λ n. group symbol (span cell.ports symbol * n) in
    let p : WideReg → Bool = λ g. not (is_group_in (values_below 4 (pcfich_group cell)) g) in
    ap (λ (gs : List WideReg). length gs) (filter-map p f (range_with_len 0 n)) ∙ length-map (filter (λ k. p (f k)) (range_with_len 0 n)) f
    ∙ all_pass (λ k. p (f k)) (λ k. rw later refl) (range_with_len 0 n) ∙ length-range_with_len 0 n
