use Rattle.std.proofs.Common.{◌≡◌, ◌∙◌, List, ℤ, length, ap, refl, sym}
use Rattle.explain.specs.Entries.{IsMasterFor}
use Rattle.explain.proofs.FirstFrame.{masters_of_frames, decoded_in_frames, none_beyond, no_master, has_one}
use Rattle.explain.proofs.masters.masters_of.Goals as goal

pub returns-then-not-has_master-clause-masters : goal.returns-then-not-has_master-clause-masters
returns-then-not-has_master-clause-masters g c recording are =
    let receiver = g.F.FrameReader.receiver in
    let place = c.args.cell.now in
    let count = length c.args.frames.now in
    let all = c.masters-decoded.result.at in
    let size : c.len.result ≡ receiver.count =
    c.len.ensures.value ∙ ap (λ (frame : List ℤ). length frame) c.index-frames-0.is ∙ c.requires.sizes 0 c.index-frames-0.result c.requires.some in
    let m = masters_of_frames receiver recording place c.bits.result.now c.len.result c.args.frame c.args.frames.now all c.bits.ensures size are c.masters-decoded.ensures.masters in
    no_master (IsMasterFor receiver recording) place count c.args.frame c.taken-at.result c.requires.some
    (decoded_in_frames receiver recording place count c.args.frame all c.taken-at.result c.taken-at.ensures.each m c.requires.some c.requires.adds)
    (sym c.has_master.ensures ∙ c.if-not-has_master.true)

pub returns-clause-masters : goal.returns-clause-masters
returns-clause-masters g c recording are =
    let receiver = g.F.FrameReader.receiver in
    let place = c.args.cell.now in
    let count = length c.args.frames.now in
    let all = c.masters-decoded.result.at in
    let masters = c.taken-at.result in
    let size : c.len.result ≡ receiver.count =
    c.len.ensures.value ∙ ap (λ (frame : List ℤ). length frame) c.index-frames-0.is ∙ c.requires.sizes 0 c.index-frames-0.result c.requires.some in
    let m = masters_of_frames receiver recording place c.bits.result.now c.len.result c.args.frame c.args.frames.now all c.bits.ensures size are c.masters-decoded.ensures.masters in (
      refl,
      refl,
      record {
        are = decoded_in_frames receiver recording place count c.args.frame all masters c.taken-at.ensures.each m c.requires.some c.requires.adds;
        some = has_one count masters (none_beyond receiver recording place count c.args.frame all masters c.taken-at.ensures.each m) (sym c.has_master.ensures ∙ c.if-not-has_master.false);
      },
    )
