use Rattle.std.proofs.Common.{◌≡◌, true, false, ◌+◌, take, subst, sym, ◌∙◌, arith}
use Rattle.lte_types.specs.declared.entry.Entry.{Entry}
use Rattle.lte_top.specs.Making.{Counts, IsSentCell}
use Rattle.lte_top.proofs.Held.{counts_nothing, counts_next, counts_past}
use Rattle.lte_top.proofs.making.count_held.Goals.{then-is_sent_cell, else-is_sent_cell}
use Rattle.lte_top.proofs.making.count_held.Goals as goal

pub loop-entry-init : goal.loop-entry-init
loop-entry-init c = record { counts = counts_nothing (IsSentCell c.args.cell.now); bound = omega arith }

not_both : false ≡ true → ⊥
not_both e = absurd cc

pub loop-entry-preserved : goal.loop-entry-preserved
loop-entry-preserved c =
    let P : Entry → Type 0 = IsSentCell c.args.cell.now in
    let list = c.args.list.now in
    let i = c.loop-entry.entry-index in
    let n = c.loop-entry.held in
    let entry = c.entry-item.result in
    let before = c.loop-entry.invariant in
    let few = before.bound in
    elim c.if-is_sent_cell.branch [
      | then-is_sent_cell w ↦
          let is = w.held-is in
          record {
            counts = subst (λ m. Counts P (take (i + 1) list) m) (sym is) (counts_next P list i n entry entry c.loop-entry-test.true c.entry-item.is before.counts (c.is_sent_cell.ensures.0 w.if-is_sent_cell.true));
            bound = omega (arith, is, few);
          }
      | else-is_sent_cell w ↦
          let is = w.held-is in
          record {
            counts = subst (λ m. Counts P (take (i + 1) list) m) (sym is) (counts_past P list i n entry entry c.loop-entry-test.true c.entry-item.is before.counts (λ p. not_both (sym w.if-is_sent_cell.false ∙ c.is_sent_cell.ensures.1 p)));
            bound = omega (arith, is, few);
          }
    ]
