use Rattle.std.proofs.Common.{◌≡◌, ℕ, arith, sym, subst}
use Rattle.added_master.specs.Choice.{IsChoice}
use Rattle.added_master.proofs.Choices.{DecodedBefore, none_before, more_before}
use Rattle.added_master.proofs.choice.master_with.Goals as goal

pub loop-phase-init : goal.loop-phase-init
loop-phase-init c = none_before c.args.id c.args.ports c.args.frames.now

pub loop-phase-preserved : goal.loop-phase-preserved
loop-phase-preserved c =
    let p = c.loop-phase.phase in
    rw c.better-best.ensures
    (more_before c.args.id c.args.ports c.args.frames.now p c.loop-phase.best c.master_at.result c.loop-phase.invariant
    (rw (sym c.period_sums-sums.ensures) c.master_at.ensures))

pub returns : goal.returns
returns c =
    let last : c.loop-phase.phase ≡ 4 = omega arith in
    subst (λ (p : ℕ). IsChoice (DecodedBefore c.args.id c.args.ports c.args.frames.now p) c.loop-phase.best) last c.loop-phase.invariant
