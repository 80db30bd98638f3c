use Rattle.std.proofs.Common.{List, Ok, Err}
use Rattle.std.specs.Prelude.{IfOk, Result}
use Rattle.cs_num.specs.declared.Sample.{Sample}
use Rattle.lte_types.specs.Numerology.{most_samples}
use Rattle.sample_file.specs.declared.reading.FileError.{FileError}
use Rattle.sample_file.specs.Reading.{HasReadRecording, HasReadFront}
use Rattle.sample_file.proofs.Keeping.{whole_front}
use Rattle.sample_file.proofs.reading.read_as.Goals as goal

pub returns-clause-ok : goal.returns-clause-ok
returns-clause-ok g c = by_result c.read_front.result c.read_front.ensures.ok
  where
    by_result : (r : Result (List Sample) FileError) →
        IfOk r (λ front. HasReadFront c.args.form most_samples front (g.S.Source.state c.args.source.now) (g.S.Source.state c.read_front.new.source)) →
        IfOk r (λ recording. HasReadRecording c.args.form recording (g.S.Source.state c.args.source.now) (g.S.Source.state c.read_front.new.source))
    by_result (Ok front) read = whole_front c.args.form front _ _ read
    by_result (Err error) read = tt
