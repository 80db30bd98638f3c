use Rattle.std.proofs.Common.{◌≤◌, take}
use Rattle.certificates.specs.Certifying.{HasCertifiedAll}
use Rattle.certificates.proofs.certifying.certify.Given as goal

abbrev pub invariant-loop-i : goal.invariant-loop-i
invariant-loop-i g l = record {
  so_far : HasCertifiedAll g.receiver l.recording (take l.i l.entries) (g.K.Sink.state l.fn.sink) (g.K.Sink.state l.sink);
  later : (g.K.Sink.state l.fn.sink).faults ≤ (g.K.Sink.state l.sink).faults;
}

abbrev pub ghost-certify_one : goal.ghost-certify_one
ghost-certify_one g a = g.receiver
