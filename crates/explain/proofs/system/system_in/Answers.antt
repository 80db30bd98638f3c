use Rattle.std.proofs.Common.{rules, ◌≡◌, ◌∙◌, ap}
use Rattle.lte_types.specs.Carrier.{ports_of}
use Rattle.lte_types.specs.declared.bandwidth.Bandwidth.TheVariants.{N6}
use Rattle.sib1_reader.proofs.Exists.{never_ports, never_width}
use Rattle.explain.specs.Receiver.{subframes_by}
use Rattle.explain.specs.System.{FrameAnswers}
use Rattle.explain.proofs.Information.{one_of_frame, searched}
use Rattle.explain.proofs.system.system_in.Goals as goal

pub returns-clause-sib1 : goal.returns-clause-sib1
returns-clause-sib1 g c =
    let mib = c.args.master.mib in
    let r = c.args.recording.now in
    let values = subframes_by g.S.ReadSlot.carrier g.S.ReadSlot.values_by in
    let as_wanted : c.args.master.ports ≡ c.ports.result = search rules in
    let six : mib.bandwidth ≡ N6 = search rules in
    searched (FrameAnswers values r c.args.place mib) (one_of_frame values r c.args.place mib) r c.args.place.start c.args.sfn g.S.ReadSlot.carrier
    (λ j decoded reads. never_ports _ decoded reads) (λ j decoded reads. never_width _ decoded reads) c.args.master.ports mib (as_wanted ∙ c.ports.ensures ∙ ap ports_of c.carrier.ensures) six
    c.read_frames.result.sib1 c.read_frames.ensures.read
