use Rattle.std.proofs.lemmas.Result.{on_err_weaker}
use Rattle.sample_file.proofs.Waiting.{none_waited, last_front, last_short}
use Rattle.sample_file.proofs.writing.write_samples.Goals as goal

pub returns-in-Ok-clause-front : goal.returns-in-Ok-clause-front
returns-in-Ok-clause-front g c =
    let p = none_waited _ _ _ _ _ c.new-writer.ensures c.in-Ok.ensures.ok in
    on_err_weaker c.finish.result (λ e. last_front _ _ _ _ _ p e) c.finish.ensures.front

pub returns-in-Ok-clause-full : goal.returns-in-Ok-clause-full
returns-in-Ok-clause-full g c =
    let p = none_waited _ _ _ _ _ c.new-writer.ensures c.in-Ok.ensures.ok in
    on_err_weaker c.finish.result (λ e. last_short _ _ _ _ p e) c.finish.ensures.full
