use Rattle.std.proofs.Common.{None, arith, ap, ◌∙◌, length-set}
use Rattle.std.proofs.lemmas.List.FromFn.{fill_by_all}
use Rattle.std.proofs.lemmas.List.Edits.{fill_by_more}
use Rattle.crs.specs.declared.pattern.Pattern.{Pattern}
use Rattle.crs.specs.Reference.{pattern_list}
use Rattle.cell_grid.specs.Rows.{port_reference_if}
use Rattle.cell_grid.proofs.grid.upper_row.Goals as goal

pub loop-k-preserved : goal.loop-k-preserved
loop-k-preserved c =
    let pilots = c.pattern_pilots-pilots.ensures.pilots ∙ ap (λ (p : Pattern). pattern_list p c.args.id c.args.slot 1) c.pattern_of.ensures.pattern in
    let here = c.upper_of.ensures c.args.id c.args.slot c.first_of_upper-first.ensures.value pilots in
    record {
      whole = length-set c.loop-k.row c.loop-k.k _ ∙ c.loop-k.invariant.whole;
      each = rw here (fill_by_more (port_reference_if c.args.port c.args.id c.args.slot 1) c.loop-k.row c.loop-k.k None (omega arith) c.loop-k.invariant.each);
    }

pub returns : goal.returns
returns c =
    fill_by_all (port_reference_if c.args.port c.args.id c.args.slot 1) c.loop-k.row 72 None c.loop-k.invariant.whole
    (λ k inside. c.loop-k.invariant.each k (omega arith))
