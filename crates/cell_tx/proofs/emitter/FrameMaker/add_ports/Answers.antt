use Rattle.std.proofs.Common.{◌≡◌, ℕ, ◌<◌, arith, sym, subst, ◌∙◌}
use Rattle.lte_types.specs.Carrier.{prefix_of, ports_of}
use Rattle.cs_num.specs.Complex.{sample_of}
use Rattle.cell_tx.specs.declared.source.Ports.{Ports}
use Rattle.cell_tx.specs.Mixing.{mixed_by}
use Rattle.cell_tx.specs.Emitting.{is_made_anew, AreChanged}
use Rattle.cell_tx.proofs.Mixing.{heard, HaveSum, none_added, room_for_next, next_added, all_added}
use Rattle.cell_tx.proofs.emitter.FrameMaker.add_ports.Goals as goal

pub loop-number-init : goal.loop-number-init
loop-number-init c = record {
  whole = c.requires.room;
  done = none_added c.args.self.now.source c.args.sfn (is_made_anew (prefix_of c.args.carrier) c.args.symbols.now) c.args.carrier c.args.frame.now c.requires.silent;
}

pub add-requires-clause-small : goal.add-requires-clause-small
add-requires-clause-small c =
    let few : c.loop-number.number < ports_of c.args.carrier = omega (arith, c.loop-number-test.true, c.ports-number-end.ensures) in
    room_for_next c.args.self.now.source c.args.sfn (is_made_anew (prefix_of c.args.carrier) c.args.symbols.now) c.args.carrier c.args.frame.now c.loop-number.number c.loop-number.frame
    c.loop-number.invariant.done c.requires.ports few

pub loop-number-preserved : goal.loop-number-preserved
loop-number-preserved c = record {
  whole = c.add.auto.frame ∙ c.loop-number.invariant.whole;
  done = next_added c.args.self.now.source c.args.sfn (is_made_anew (prefix_of c.args.carrier) c.args.symbols.now) c.args.carrier c.args.frame.now c.loop-number.number c.loop-number.frame
      c.loop-number.invariant.done c.add.new.frame c.add.ensures;
}

pub returns : goal.returns
returns c =
    let s = c.args.self.now.source in
    let p = is_made_anew (prefix_of c.args.carrier) c.args.symbols.now in
    let all : c.loop-number.number ≡ ports_of c.args.carrier = omega (arith, c.loop-number-test.false, c.loop-number.auto.number-end, c.ports-number-end.ensures) in
    subst (λ (ports : Ports). AreChanged p (λ i before. sample_of (mixed_by ports (λ port. heard s c.args.sfn port i) s.gains)) c.args.frame.now c.loop-number.frame) (sym c.requires.ports)
    (all_added s c.args.sfn p c.args.carrier c.args.frame.now c.loop-number.frame
    (subst (λ (n : ℕ). HaveSum s c.args.sfn p c.args.carrier c.args.frame.now n c.loop-number.frame) all c.loop-number.invariant.done))
