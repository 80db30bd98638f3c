-- Blocks whose coded bits are all sent.
use Rattle.std.proofs.Common.{◌≡◌, ℕ, ◌+◌, ◌*◌, ◌<◌, ◌≤◌, Bool, true, List, refl, ap, ◌∙◌, arith}
use Rattle.std.proofs.lemmas.Bool.{and_from, or_left}
use Rattle.finite.specs.Tests.{every_below}
use Rattle.finite.proofs.Tests.{any_below_at, every_below_all}
use Rattle.sub_block.specs.Items.{item, is_at}
use Rattle.sub_block.proofs.Sums.{at_itself}
use Rattle.turbo_code.specs.declared.rows.Row.{Row}
use Rattle.turbo_code.specs.Table.{IsAnySize}
use Rattle.turbo_code.specs.Reading.{item_of}
use Rattle.turbo_code.proofs.TableFacts.{row_size}
use Rattle.turbo_code.proofs.Whole.{whole}
use Rattle.erasure.specs.Known.{settled, resolves, settles_all, resolvable, sent_of}
use Rattle.erasure.specs.Laws.{WholeBlockIsResolvable}

-- if every bit of the word is sent, the first iteration settles all
pub resolved_at_once : (row : Row) (sent : ℕ → ℕ → Bool) (word : List Bool) → ((k : ℕ) → k < row.k → sent 0 k ≡ true) →
    resolvable row sent word ≡ true
unfolding resolvable every_below
resolved_at_once row sent word each = any_below_at 8 0 (resolves row sent word) (omega arith) (and_from (settles_all row sent 0) true full refl)
  where
    full : settles_all row sent 0 ≡ true
    full = every_below_all row.k (settled row sent 0) (λ k inside. or_left _ _ (or_left _ _ (each k inside)))

-- one round of the reading sends each item
pub all_sent : (k rv m : ℕ) → IsAnySize k → rv < 4 → 3 * (k + 4) ≤ m → (t p : ℕ) → t < 3 → p < k + 4 → sent_of k rv m t p ≡ true
unfolding sent_of
all_sent k rv m is_size version many t p stream inside =
    let (i, below, is) = (whole k rv is_size version).reads.each t p stream inside in
    any_below_at m i (λ i. is_at t p (item_of k rv i)) (omega (arith, below, many)) (ap (is_at t p) is ∙ at_itself (item t p))

pub whole_block_is_resolvable : WholeBlockIsResolvable
whole_block_is_resolvable row rv count word is_row version many =
    resolved_at_once row (sent_of row.k rv count) word (λ k inside.
    all_sent row.k rv count (row_size row is_row) version many 0 k (omega arith) (omega (arith, inside)))
