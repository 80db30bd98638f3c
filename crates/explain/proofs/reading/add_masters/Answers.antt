use Rattle.std.proofs.Common.{◌≡◌, ◌∙◌, ◌-◌, arith, refl, subst}
use Rattle.std.specs.Prelude.{Err}
use Rattle.lte_types.specs.declared.sib1_reason.Sib1Reason.TheVariants.{NotDecoded}
use Rattle.explain.specs.System.{IsSystemFor}
use Rattle.explain.specs.Masters.{AddsPhases}
use Rattle.explain.proofs.Made.{no_phases, one_more_phase}
use Rattle.explain.proofs.reading.add_masters.Goals as goal

pub loop-phase-init : goal.loop-phase-init
loop-phase-init g c =
    let m = c.args.found.now.masters in
    record {
      adds = no_phases (IsSystemFor g.F.FrameReader.receiver c.args.recording.now) c.args.found.now.place m.frames m.frame m.at c.args.list.now (λ phase. Err NotDecoded);
      few = omega arith;
      beside = c.requires.beside;
      readings = λ hits first all. all;
      places = refl;
    }

pub loop-phase-preserved : goal.loop-phase-preserved
loop-phase-preserved g c =
    let m = c.args.found.now.masters in
    record {
      adds = one_more_phase (IsSystemFor g.F.FrameReader.receiver c.args.recording.now) c.args.found.now.place m.frames m.frame m.at c.loop-phase.phase c.args.list.now c.loop-phase.list c.add_phase.new.list
          c.loop-phase.invariant.adds c.add_phase.ensures.adds;
      few = omega arith;
      beside = c.add_phase.ensures.beside;
      readings = λ hits first all. c.add_phase.ensures.readings hits first (c.loop-phase.invariant.readings hits first all);
      places = c.add_phase.ensures.places ∙ c.loop-phase.invariant.places;
    }

pub returns-clause-adds : goal.returns-clause-adds
returns-clause-adds g c =
    let m = c.args.found.now.masters in
    let last : c.loop-phase.phase ≡ 5 - m.frames = omega arith in
    subst (λ n. AddsPhases (IsSystemFor g.F.FrameReader.receiver c.args.recording.now) c.args.found.now.place m.frames m.frame m.at n c.args.list.now c.loop-phase.list) last c.loop-phase.invariant.adds
