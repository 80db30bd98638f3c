use Rattle.std.proofs.Common.{◌∙◌, ◌∷◌, [], None, ap, arith, sym, subst}
use Rattle.std.specs.Prelude.{Err}
use Rattle.std.proofs.lemmas.List.{get_or_default}
use Rattle.lte_types.specs.declared.sib1_reason.Sib1Reason.TheVariants.{NotDecoded}
use Rattle.lte_types.specs.Frames.{Frames, frames_from}
use Rattle.lte_types.specs.declared.entry.Entry.{Entry}
use Rattle.explain.specs.Entries.{Adds}
use Rattle.explain.specs.Masters.{entry_of, AddsPhase}
use Rattle.explain.specs.Receiver.{place_by, sums_by}
use Rattle.explain.specs.System.{IsSystemFor}
use Rattle.explain.specs.Grant.{IsGrantFor}
use Rattle.explain.specs.Blocks.{IsBlockFor}
use Rattle.explain.specs.Readings.{IsReadingOf}
use Rattle.explain.proofs.Beside.{keeps, reads_so}
use Rattle.explain.proofs.Kept.{adds_none}
use Rattle.explain.proofs.reading.add_phase.Goals as goal

pub returns-in-Some-clause-adds : goal.returns-in-Some-clause-adds
returns-in-Some-clause-adds g c =
    let m = c.args.found.now.masters in
    let place = c.args.found.now.place in
    let entry = c.entry_of-entry.result.0 in
    let whole = c.entry_of-entry.ensures.entry ∙ ap (λ (f : Frames). entry_of place f c.in-Some.master entry.sib1) c.frames_at-frames.ensures in
    let here = sym c.in-Some.is ∙ get_or_default m.at c.args.phase c.index-found-phase.result None (let count = c.requires.count in let frames = c.requires.frames in omega (arith, count, frames.period, frames.some)) in
    subst (λ o. AddsPhase (IsSystemFor g.F.FrameReader.receiver c.args.recording.now) place (frames_from m.frames m.frame c.args.phase) o c.args.list.now c.add_entry.new.list) here
    (record {
      sib1 = entry.sib1;
      is_system = subst (λ n. IsSystemFor g.F.FrameReader.receiver c.args.recording.now place n c.in-Some.master.ports c.in-Some.master.mib entry.sib1) (ap (λ (e : Entry). e.sfn) whole) c.entry_of-entry.ensures.system;
      adds = subst (λ e. Adds (e ∷ []) c.args.list.now c.add_entry.new.list) whole c.add_entry.ensures.adds;
    })

pub returns-in-Some-clause-readings : goal.returns-in-Some-clause-readings
returns-in-Some-clause-readings g c hits first =
    let r = c.args.recording.now in
    let m = c.args.found.now.masters in
    let place = c.args.found.now.place in
    let frames = c.requires.frames in
    let entry = c.entry_of-entry.result.0 in
    let whole = c.entry_of-entry.ensures.entry ∙ ap (λ (f : Frames). entry_of place f c.in-Some.master entry.sib1) c.frames_at-frames.ensures in
    keeps (IsReadingOf g.F.FrameReader.receiver r hits) entry _ c.args.list.now c.add_entry.new.list c.args.notes.now.readings c.add_entry.new.readings
    c.add_entry.ensures.both
    (reads_so (sums_by g.F.FrameReader.receiver r) (IsGrantFor g.F.FrameReader.receiver r) (IsBlockFor g.F.FrameReader.receiver r) (place_by g.F.FrameReader.receiver.carrier r) hits place (frames_from m.frames m.frame c.args.phase) c.in-Some.master entry _ whole first
    (get_or_default m.sums c.args.phase c.index-found-phase-in-Some.result [] (omega arith) ∙ c.requires.sums c.args.phase (omega (arith, frames.period)))
    c.entry_of-entry.ensures.granted c.entry_of-entry.ensures.block)

pub returns-in-None-clause-adds : goal.returns-in-None-clause-adds
returns-in-None-clause-adds g c =
    let m = c.args.found.now.masters in
    let here = sym c.in-None.is ∙ get_or_default m.at c.args.phase c.index-found-phase.result None (let count = c.requires.count in let frames = c.requires.frames in omega (arith, count, frames.period, frames.some)) in
    subst (λ o. AddsPhase (IsSystemFor g.F.FrameReader.receiver c.args.recording.now) c.args.found.now.place (frames_from m.frames m.frame c.args.phase) o c.args.list.now c.args.list.now) here
    (record { sib1 = Err NotDecoded; is_system = tt; adds = adds_none c.args.list.now })
