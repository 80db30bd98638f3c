use Rattle.std.proofs.Common.{◌∙◌, sym, subst, Ok, Err, map, string_bytes}
use Rattle.std.specs.Vec.Iter.{into_iter_items}
use Rattle.lte_top.specs.Exit.{IsRun}
use Rattle.lte_top.proofs.process.run_process.Goals.{in-Ok, in-Err}
use Rattle.lte_top.proofs.process.run_process.Goals as goal

pub returns : goal.returns
returns g c = elim c.match-args.branch [
  | in-Ok w ↦
      let arguments = map string_bytes (into_iter_items w.in-Ok.arguments) in
      record {
        arguments = Ok arguments;
        answer = c.match-args.status;
        answered = subst (λ status. IsRun c.args.program arguments status) (sym w.status-is) w.answer-status.ensures;
        code = c.from.ensures ∙ c.code.ensures;
      }
  | in-Err w ↦ record {
    arguments = Err w.kind.result;
    answer = c.match-args.status;
    answered = w.status-is ∙ w.refusal-status.ensures;
    code = c.from.ensures ∙ c.code.ensures;
  }
]
