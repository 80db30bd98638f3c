use Rattle.std.proofs.Common.{ap, ◌∙◌}
use Rattle.std.proofs.lemmas.Slice.Zip.{Zip-more, either_empty_from_Zip}
use Rattle.report_text.specs.All.{ruled_text}
use Rattle.report_parts.proofs.Zipped.{put_more, put_last}
use Rattle.report_text.proofs.RuledTexts.{ruled_string, strings_are_texts}
use Rattle.report_text.proofs.all.text_of_ruled.Goals as goal

pub loop-carrier-preserved : goal.loop-carrier-preserved
loop-carrier-preserved c =
    let next = Zip-more c.loop-carrier.carrier-iterator c.next.new.self c.next.result (c.in-Some.carrier, c.in-Some.text) c.in-Some.is c.next.ensures.steps in
    put_more ruled_string _ _ c.in-Some.carrier.now c.in-Some.text.now _ _ _ _ _ _ next.0 next.1 c.loop-carrier.invariant c.in_ok-push_str.ensures.bytes
    (c.deref-in-loop-carrier.ensures ∙ c.in_ok-lines.ensures ∙ ap (ruled_text c.in-Some.carrier.now) c.deref.ensures)

pub returns : goal.returns
returns c of are =
    let ended = either_empty_from_Zip c.loop-carrier.carrier-iterator c.next.new.self c.next.result c.in-None.is c.next.ensures.steps in
    put_last ruled_string _ _ _ _ ended c.loop-carrier.invariant ∙ strings_are_texts c.args.texts.now of are
