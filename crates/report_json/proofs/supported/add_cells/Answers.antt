use Rattle.std.proofs.Common.{◌++◌, ap, refl, ◌∙◌, map}
use Rattle.std.proofs.lemmas.List.{map-append}
use Rattle.std.proofs.lemmas.Slice.Zip.{Zip-more, either_empty_from_Zip}
use Rattle.report_json.specs.Supported.{cell_value}
use Rattle.report_parts.proofs.Zipped.{put_more, put_last}
use Rattle.report_json.proofs.SupportedCells.{one_cell, by_cells}
use Rattle.report_json.proofs.supported.add_cells.Goals as goal

pub loop-entry-preserved : goal.loop-entry-preserved
loop-entry-preserved c =
    let next = Zip-more c.loop-entry.entry-iterator c.next.new.self c.next.result (c.in-Some.entry, c.in-Some.support) c.in-Some.is c.next.ensures.steps in
    put_more (one_cell c.args.rule) _ _ c.in-Some.entry.now c.in-Some.support.now _ _ _ _ _ _ next.0 next.1 c.loop-entry.invariant (ap (map cell_value) c.in_ok-push.ensures.items ∙ map-append cell_value _ _) refl

pub returns : goal.returns
returns c =
    let ended = either_empty_from_Zip c.loop-entry.entry-iterator c.next.new.self c.next.result c.in-None.is c.next.ensures.steps in
    put_last (one_cell c.args.rule) _ _ _ _ ended c.loop-entry.invariant ∙ ap (λ l. map cell_value c.args.cells.now.items ++ l) (by_cells c.args.rule c.args.list.now)
