use Rattle.std.proofs.Common.{◌≡◌, ◌<◌, ◌≤◌, ◌∙◌, true, false, ap, sym, subst, length, List, refl}
use Rattle.std.specs.List.{AllWithin, HoldsAt, list_any}
use Rattle.lte_types.specs.declared.entry.Entry.{Entry}
use Rattle.explain.specs.Entries.{IsBefore, is_same_cell}
use Rattle.explain.proofs.Kept.{decoded_already, decoded_now}
use Rattle.explain.proofs.entry_list.EntryList.add.Goals as goal

pub returns-then-has_cell-clause-adds : goal.returns-then-has_cell-clause-adds
returns-then-has_cell-clause-adds c before listed =
    let decoded : list_any (λ (other : Entry). is_same_cell other c.args.entry) c.args.self.now ≡ true =
    ap (list_any (λ (other : Entry). is_same_cell other c.args.entry)) (sym c.slice.ensures) ∙ sym c.if-has_cell.ensures in
    decoded_already before c.args.self.now c.args.entry listed decoded

pub returns-then-has_cell-clause-new : goal.returns-then-has_cell-clause-new
returns-then-has_cell-clause-new c =
    let decoded : list_any (λ (other : Entry). is_same_cell other c.args.entry) c.args.self.now ≡ true =
    ap (list_any (λ (other : Entry). is_same_cell other c.args.entry)) (sym c.slice.ensures) ∙ sym c.if-has_cell.ensures in
    ((λ e. absurd (cc e)), λ e. absurd (cc (sym e ∙ decoded)))

pub returns-clause-put : goal.returns-clause-put
returns-clause-put c =
    let at = c.index_of-at.result in
    let same = c.slice-2.ensures in
    record {
      within = subst (λ (l : List Entry). at ≤ length l) same c.index_of-at.ensures.within;
      before = subst (λ (l : List Entry). AllWithin (λ other. IsBefore other c.args.entry) l 0 at) same c.index_of-at.ensures.before;
      after = subst (λ (l : List Entry). at < length l → HoldsAt (λ other. ¬ IsBefore other c.args.entry) l at) same c.index_of-at.ensures.after;
      new_is = c.insert.ensures;
    }

pub returns-clause-adds : goal.returns-clause-adds
returns-clause-adds c before listed =
    let none : list_any (λ (other : Entry). is_same_cell other c.args.entry) c.args.self.now ≡ false =
    ap (list_any (λ (other : Entry). is_same_cell other c.args.entry)) (sym c.slice.ensures) ∙ sym c.if-has_cell.ensures in
    let put = returns-clause-put c in
    rw c.insert.ensures (decoded_now before c.args.self.now c.args.entry c.index_of-at.result listed none put.within put.before put.after)

pub returns-clause-new : goal.returns-clause-new
returns-clause-new c =
    let none : list_any (λ (other : Entry). is_same_cell other c.args.entry) c.args.self.now ≡ false =
    ap (list_any (λ (other : Entry). is_same_cell other c.args.entry)) (sym c.slice.ensures) ∙ sym c.if-has_cell.ensures in
    ((λ e. none), λ e. refl)
