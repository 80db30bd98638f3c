use Rattle.std.proofs.Common.{ap, refl, ◌∙◌}
use Rattle.std.proofs.lemmas.Slice.Zip.{Zip-more, either_empty_from_Zip}
use Rattle.lte_types.specs.Carrier.{carriers}
use Rattle.report_json.specs.Supported.{supported_values}
use Rattle.report_parts.proofs.Zipped.{put_for, put_more, put_last, put_by}
use Rattle.report_json.proofs.supported.cells_of.Goals as goal

pub loop-carrier-preserved : goal.loop-carrier-preserved
loop-carrier-preserved c =
    let next = Zip-more c.loop-carrier.carrier-iterator c.next.new.self c.next.result (c.in-Some.carrier, c.in-Some.list) c.in-Some.is c.next.ensures.steps in
    put_more supported_values _ _ c.in-Some.carrier.now c.in-Some.list.now _ _ _ _ _ _ next.0 next.1 c.loop-carrier.invariant c.in_ok-add_cells.ensures refl

pub returns : goal.returns
returns c of are =
    let ended = either_empty_from_Zip c.loop-carrier.carrier-iterator c.next.new.self c.next.result c.in-None.is c.next.ensures.steps in
    put_last supported_values _ _ _ _ ended c.loop-carrier.invariant ∙ ap (put_for supported_values carriers) are ∙ put_by supported_values of carriers
