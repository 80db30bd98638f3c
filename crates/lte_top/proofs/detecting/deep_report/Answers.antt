use Rattle.std.proofs.Common.{◌∙◌, ap₂, subst}
use Rattle.std.proofs.lemmas.Result.{IfOk-weaker}
use Rattle.accumulated_list.specs.Cells.{IsList}
use Rattle.lte_top.specs.Deep.{deep_text}
use Rattle.lte_top.proofs.Deep.{used_list}
use Rattle.lte_top.proofs.detecting.deep_report.Goals as goal

pub returns : goal.returns
returns c =
    let cells = c.in_ok-cells.cells.items in
    let same = c.half_frames_of-halves.ensures.value in
    IfOk-weaker c.written.result _ _ (λ text is. record {
      cells = cells;
      is_list = used_list c.args.span c.args.recording.now cells (subst (λ n. IsList c.args.recording.now n cells) same c.in_ok-cells.ensures.list);
      text_is = is ∙ ap₂ (deep_text c.args.output) same c.deref.ensures.value;
    }) c.written.ensures
