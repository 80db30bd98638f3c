use Rattle.std.proofs.Common.{◌≡◌, ap₂, ◌∙◌}
use Rattle.halving.specs.Halved.{halved_by}
use Rattle.halving.specs.Wide.{narrowed}
use Rattle.halving.proofs.Lengths.{narrowed_between}
use Rattle.halving.proofs.wide.narrowed.Goals as goal

pub recording_of-requires-clause-least : goal.recording_of-requires-clause-least
recording_of-requires-clause-least c =
    let is : c.in_ok-samples.samples.items ≡ narrowed c.args.wide.now = c.in_ok-samples.ensures ∙ ap₂ halved_by c.rate.ensures.value c.as_slice.ensures.value in
    rw is (narrowed_between c.args.wide.now c.rate.ensures.valid).0

pub recording_of-requires-clause-most : goal.recording_of-requires-clause-most
recording_of-requires-clause-most c =
    let is : c.in_ok-samples.samples.items ≡ narrowed c.args.wide.now = c.in_ok-samples.ensures ∙ ap₂ halved_by c.rate.ensures.value c.as_slice.ensures.value in
    rw is (narrowed_between c.args.wide.now c.rate.ensures.valid).1

pub returns-clause-most : goal.returns-clause-most
returns-clause-most c =
    let is : c.recording_of.result ≡ narrowed c.args.wide.now = c.recording_of.ensures ∙ c.in_ok-samples.ensures ∙ ap₂ halved_by c.rate.ensures.value c.as_slice.ensures.value in
    rw is (narrowed_between c.args.wide.now c.rate.ensures.valid).1
