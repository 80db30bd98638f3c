use Rattle.std.proofs.Common.{◌≡◌, ℕ, ◌-◌, ◌*◌, ◌+◌, ◌/◌, ◌%◌, ◌<◌, ◌≤◌, suc, sym, ap, arith, ◌∙◌}
use Rattle.sub_block.specs.Items.{item}
use Rattle.turbo_code.proofs.Cells.{buffer_first, buffer_second, buffer_third}
use Rattle.turbo_code.proofs.matching.buffer_at.Goals as goal

pub returns-then-j-size-clause-cell : goal.returns-then-j-size-clause-cell
returns-then-j-size-clause-cell c = ap (item 0) c.cell_at.ensures.cell ∙ sym (buffer_first c.args.rows c.args.j c.if-j-size.true)

even : (j s : ℕ) → s ≤ j → (j - s) % 2 ≡ 0 → j ≡ s + 2 * ((j - s) / 2)
even j s h e = omega (arith, h, e)

odd : (j s : ℕ) → s ≤ j → ((j - s) % 2 ≡ 0 → ⊥) → j ≡ s + suc (2 * ((j - s) / 2))
odd j s h e = omega (arith, h, e)

below : (j r : ℕ) → 32 * r ≤ j → j < 96 * r → (j - 32 * r) / 2 < 32 * r
below j r h k = omega (arith, h, k)

pub returns-then-j-size-eq0-clause-cell : goal.returns-then-j-size-eq0-clause-cell
returns-then-j-size-eq0-clause-cell c =
    ap (item 1) c.cell_at-cell.ensures.cell
    ∙ sym (buffer_second c.args.rows c.args.j _ (even c.args.j (32 * c.args.rows) c.if-j-size.false c.if-j-size-eq0.true) (below c.args.j c.args.rows c.if-j-size.false c.requires.inside))

pub returns-else-j-size-eq0-clause-cell : goal.returns-else-j-size-eq0-clause-cell
returns-else-j-size-eq0-clause-cell c =
    ap (λ n. item 2 ((n + 1) % (32 * c.args.rows))) c.cell_at-cell.ensures.cell
    ∙ sym (buffer_third c.args.rows c.args.j _ (odd c.args.j (32 * c.args.rows) c.if-j-size.false c.if-j-size-eq0.false) (below c.args.j c.args.rows c.if-j-size.false c.requires.inside))
