use Rattle.std.proofs.Common.{refl, take, length-take, ◌∙◌, ap, arith}
use Rattle.tail_cert.specs.Form.{count_of}
use Rattle.tail_cert.proofs.Breaks.{long_enough}
use Rattle.tail_cert.proofs.Whole.{count_most, front_fits}
use Rattle.code_tests.proofs.certificates.read.Goals as goal

pub parse-requires-clause-most : goal.parse-requires-clause-most
parse-requires-clause-most c =
    let most = count_most (take c.min.result c.args.bytes.now) in
    let size = length-take c.min-2.result c.args.bytes.now in
    omega (arith, most, size, c.in_ok-whole.ensures.ok, c.min-2.ensures)

pub parse-requires-clause-fits : goal.parse-requires-clause-fits
parse-requires-clause-fits c = λ h.
    let long = long_enough _ (take c.min.result c.args.bytes.now) (c.in_ok-whole.ensures.unbroken.0 refl) in
    let size = length-take c.min.result c.args.bytes.now in
    rw c.min-2.ensures (front_fits c.args.bytes.now c.in_ok-whole.whole (omega (arith, long, size)) (c.in_ok-whole.ensures.ok ∙ ap (λ m. count_of (take m c.args.bytes.now)) c.min.ensures))
