use Rattle.std.proofs.Common.{◌≡◌, ◌+◌, ◌*◌, ◌%◌, ap, subst, sym, ◌∙◌, arith}
use Rattle.turbo_code.specs.Reading.{item_of}
use Rattle.turbo_code.specs.Walk.{Standing, IsAt}
use Rattle.turbo_code.specs.declared.matching.Walk.TheInside.{Inside}
use Rattle.turbo_code.proofs.Round.{round}
use Rattle.turbo_code.proofs.Walking.{Meets, null_passed, bit_found, behind, never_past}
use Rattle.turbo_code.proofs.matching.Walk.step.Goals as goal
use Rattle.turbo_code.proofs.matching.Walk.step.Goals.{then-self-eq0, else-self-eq0}

pub buffer_at-cell-requires-clause-rows : goal.buffer_at-cell-requires-clause-rows
buffer_at-cell-requires-clause-rows c =
    let at = c.self.invariant in
    (round c.self.inside.k c.self.inside.rv c.div_ceil-rows.result at.size at.version (omega arith)).few

pub invariant_of-self : goal.invariant_of-self
invariant_of-self c =
    let here : Meets c.self.inside.k c.self.inside.rv c.self.inside.bit c.div_ceil-rows.result c.loop-m.m c.buffer_at-cell.result =
    record { at = c.loop-m.invariant.at; rows = omega arith; inside = c.loop-m-test.true; cell = c.buffer_at-cell.ensures.cell } in
    let at = behind _ _ _ _ _ _ here c.if-cell-nulls.true c.if-self-eq0.self in
    let same = sym c.loop-m.invariant.same in
    let bit = ap (λ (w : Inside). (w.bit + 1) % (3 * (c.self.inside.k + 4))) same in
    subst (λ (w : Inside). IsAt w.k w.rv ((w.bit + 1) % (3 * (c.self.inside.k + 4))) c.if-self-eq0.self) same
    (elim c.if-self-eq0.branch [
      | then-self-eq0 w ↦
          let last : (c.loop-m.self-inside.bit + 1) % (3 * (c.self.inside.k + 4)) ≡ 0 = w.if-self-eq0.true in
          at (λ _. w.self-is) (λ more. absurd (more (bit ∙ last)))
      | else-self-eq0 w ↦
          let more : (c.loop-m.self-inside.bit + 1) % (3 * (c.self.inside.k + 4)) ≡ 0 → ⊥ = w.if-self-eq0.false in
          at (λ last. absurd (more (sym bit ∙ last))) (λ _. w.self-is)
    ])

pub returns-then-cell-nulls-clause-item : goal.returns-then-cell-nulls-clause-item
returns-then-cell-nulls-clause-item c =
    let here : Meets c.self.inside.k c.self.inside.rv c.self.inside.bit c.div_ceil-rows.result c.loop-m.m c.buffer_at-cell.result =
    record { at = c.loop-m.invariant.at; rows = omega arith; inside = c.loop-m-test.true; cell = c.buffer_at-cell.ensures.cell } in
    bit_found _ _ _ _ _ _ here c.if-cell-nulls.true ∙ ap (λ (s : Standing). item_of s.k s.rv s.bit) c.self.view_is

pub loop-m-preserved : goal.loop-m-preserved
loop-m-preserved c =
    let here : Meets c.self.inside.k c.self.inside.rv c.self.inside.bit c.div_ceil-rows.result c.loop-m.m c.buffer_at-cell.result =
    record { at = c.loop-m.invariant.at; rows = omega arith; inside = c.loop-m-test.true; cell = c.buffer_at-cell.ensures.cell } in
    record {
      same = c.loop-m.invariant.same;
      at = null_passed _ _ _ _ _ _ here c.if-cell-nulls.false;
    }

pub unreachable-requires : goal.unreachable-requires
unreachable-requires c =
    never_past c.self.inside.k c.self.inside.rv c.self.inside.bit c.div_ceil-rows.result c.loop-m.m c.loop-m.invariant.at (omega arith) c.loop-m-test.false
