use Rattle.std.proofs.Common.{◌≡◌, ℕ, ◌+◌, Bool, List, ap, sym, ◌∙◌}
use Rattle.finite.specs.Tests.{every_below}
use Rattle.turbo_code.specs.declared.rows.Row.{Row}
use Rattle.erasure.specs.Known.{resolvable, sent_of}
use Rattle.cell_plan.specs.Transport.{row_with, is_resolvable_by}
use Rattle.cell_plan.proofs.BlockRows.{row_with_is}
use Rattle.cell_plan.proofs.transport.block_fills.Goals as goal

by_row : (k count : ℕ) (row : Row) (bits word : List Bool) → row ≡ row_with k → row.k ≡ k → bits ≡ word →
    every_below 4 (λ rv. resolvable row (sent_of row.k rv count) bits) ≡ is_resolvable_by k count word
unfolding is_resolvable_by
by_row k count row bits word same size is =
    ap (λ (r : Row). every_below 4 (λ rv. resolvable r (sent_of row.k rv count) bits)) same
    ∙ ap (λ (n : ℕ). every_below 4 (λ rv. resolvable (row_with k) (sent_of n rv count) bits)) size
    ∙ ap (λ (w : List Bool). every_below 4 (λ rv. resolvable (row_with k) (sent_of k rv count) w)) is

pub returns : goal.returns
returns c =
    let found = c.in-Some.ensures in
    let same : c.in-Some.row ≡ row_with (c.args.size + 24) = sym (ap row_with (sym found.1) ∙ row_with_is c.in-Some.row found.0) in
    c.fills.ensures ∙ by_row (c.args.size + 24) c.args.count c.in-Some.row _ _ same found.1 c.checked_block.ensures
