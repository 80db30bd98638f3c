-- Plans whose block can be resolved; it always can if each coded bit is sent.
use Rattle.std.proofs.Common.{◌≡◌, ℕ, ◌+◌, ◌*◌, ◌≤◌, ◌<◌, Bool, true, false, List, ◌&&◌, ◌||◌, Option, Some, None, inl, refl, ap, subst, sym, ◌∙◌, arith}
use Rattle.std.specs.Prelude.{IsSome}
use Rattle.std.specs.Option.{unwrap_or}
use Rattle.std.proofs.lemmas.Bool.{leb-true as leb-le, and_parts, false≢true}
use Rattle.finite.proofs.Tests.{every_below_all, every_below_at}
use Rattle.turbo_code.specs.declared.rows.Row.{Row}
use Rattle.turbo_code.specs.Table.{IsSize}
use Rattle.erasure.specs.Known.{resolvable, sent_of}
use Rattle.erasure.proofs.Whole.{whole_block_is_resolvable}
use Rattle.dci.specs.Sizes.{size_of}
use Rattle.cell_plan.specs.declared.cell.CellPlan.{CellPlan}
use Rattle.cell_plan.specs.Transport.{block_size, checked_size, shared_word, row_with, assigned_bits, has_block, is_whole, is_resolvable_by, is_resolvable}
use Rattle.cell_plan.specs.Laws.{WholeBlocksAreResolvable}
use Rattle.dci.proofs.SizeRows.{size_fits}
use Rattle.cell_plan.proofs.BlockRows.{row_of_size}

pub some_is : (o : Option ℕ) → IsSome o → o ≡ Some (unwrap_or o 0)
some_is (Some n) there = refl
some_is None there = absurd (false≢true there)

whole_word_is_resolvable : (k count : ℕ) (word : List Bool) → IsSize k → 3 * (k + 4) ≤ count → is_resolvable_by k count word ≡ true
unfolding is_resolvable_by
whole_word_is_resolvable k count word size many =
    let of = row_of_size k size in
    let same = of.size in
    every_below_all 4 (λ rv. resolvable (row_with k) (sent_of k rv count) word) (λ rv version.
    subst (λ n. resolvable (row_with k) (sent_of n rv count) word ≡ true) same
    (whole_block_is_resolvable (row_with k) rv count word (inl of.is) version (omega (arith, same, many))))

pub whole_is_resolvable : (plan : CellPlan) → IsSome (size_of plan.mcs plan.column) → 3 * (checked_size plan + 4) ≤ assigned_bits plan → is_resolvable plan ≡ true
whole_is_resolvable plan sized many =
    whole_word_is_resolvable (checked_size plan) (assigned_bits plan) (shared_word plan)
    (size_fits plan.mcs plan.column (block_size plan) (some_is (size_of plan.mcs plan.column) sized)) many

pub whole_blocks_are_resolvable : WholeBlocksAreResolvable
whole_blocks_are_resolvable plan sized whole =
    whole_is_resolvable plan sized (leb-le (3 * (checked_size plan + 4)) (assigned_bits plan) whole)

-- each part of the condition implies that the block can be resolved
either : (whole block enough : Bool) → (whole ≡ true → enough ≡ true) → (whole || (block && enough)) ≡ true → enough ≡ true
either true block enough by h = by refl
either false block enough by h = (and_parts block enough h).1

pub enough_is_resolvable : (plan : CellPlan) → IsSome (size_of plan.mcs plan.column) → (is_whole plan || (has_block plan && is_resolvable plan)) ≡ true → is_resolvable plan ≡ true
enough_is_resolvable plan sized h =
    either (is_whole plan) (has_block plan) (is_resolvable plan) (whole_blocks_are_resolvable plan sized) h

-- the block can be resolved for each redundancy version
pub resolvable_at : (plan : CellPlan) (rv count : ℕ) (row : Row) → is_resolvable plan ≡ true → rv < 4 → row ≡ row_with (checked_size plan) → row.k ≡ checked_size plan
    → assigned_bits plan ≡ count → resolvable row (sent_of row.k rv count) (shared_word plan) ≡ true
unfolding is_resolvable_by
resolvable_at plan rv count row all version same size is_count =
    ap (λ (r : Row). resolvable r (sent_of row.k rv count) (shared_word plan)) same
    ∙ ap (λ (n : ℕ). resolvable (row_with (checked_size plan)) (sent_of n rv count) (shared_word plan)) size
    ∙ ap (λ (m : ℕ). resolvable (row_with (checked_size plan)) (sent_of (checked_size plan) rv m) (shared_word plan)) (sym is_count)
    ∙ every_below_at 4 (λ rv. resolvable (row_with (checked_size plan)) (sent_of (checked_size plan) rv (assigned_bits plan)) (shared_word plan)) all rv version
