use Rattle.std.proofs.Common.{List, length, subst}
use Rattle.std.proofs.lemmas.Result.{on_ok_weaker, on_err_weaker}
use Rattle.cs_num.specs.declared.Sample.{Sample}
use Rattle.cs_outside.specs.Streams.{HasWritten, HasWrittenFront, IsShortOf}
use Rattle.sample_file.specs.Recording.{bytes_of}
use Rattle.lte_top.proofs.transmitting.write_emission.Goals as goal

pub returns-clause-ok : goal.returns-clause-ok
returns-clause-ok g c =
    on_ok_weaker c.write_pieces.result
    (subst (λ (samples : List Sample). HasWritten (bytes_of samples) (g.K.Sink.state c.args.sink.now) (g.K.Sink.state c.write_pieces.new.sink)) c.new.ensures.samples)
    c.write_pieces.ensures.ok

pub returns-clause-front : goal.returns-clause-front
returns-clause-front g c =
    on_err_weaker c.write_pieces.result
    (subst (λ (samples : List Sample). HasWrittenFront (bytes_of samples) (g.K.Sink.state c.args.sink.now) (g.K.Sink.state c.write_pieces.new.sink)) c.new.ensures.samples)
    c.write_pieces.ensures.front

pub returns-clause-full : goal.returns-clause-full
returns-clause-full g c =
    on_err_weaker c.write_pieces.result
    (subst (λ (samples : List Sample). IsShortOf (length (bytes_of samples)) (g.K.Sink.state c.args.sink.now)) c.new.ensures.samples)
    c.write_pieces.ensures.full
