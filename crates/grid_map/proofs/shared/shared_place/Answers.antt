use Rattle.std.proofs.Common.{◌≡◌, ℕ, ◌+◌, ◌*◌, ◌<◌, ◌≤◌, ◌∙◌, ap, ap₂, sym, subst, Some, arith}
use Rattle.grid_map.specs.Place.{place}
use Rattle.grid_map.specs.Shared.{is_shared_of}
use Rattle.grid_map.proofs.Symbols.{ahead_first, ahead_later, ahead_here, ahead_never, pdsch_count, pdsch_item, pdsch_carries}
use Rattle.grid_map.proofs.shared.shared_place.Goals as goal

pub loop-symbol-init : goal.loop-symbol-init
loop-symbol-init c =
    let a = c.args.assignment.now in
    let known = c.start-start.ensures.valid in
    let cfi = c.value-symbol.ensures in
    let is = c.cfi.ensures.value in
    let low = known.wide in
    let high = cfi.valid.1 in
    let same : c.value-symbol.result ≡ a.cfi = cfi.value ∙ is in
    rw same (ahead_first c.args.carrier c.args.id a.cfi a.start a.blocks c.args.i low (omega (arith, high, is)) known.are.inside c.requires)

pub loop-symbol-preserved : goal.loop-symbol-preserved
loop-symbol-preserved c =
    let a = c.args.assignment.now in
    let is = ap₂ (λ (room blocks : ℕ). room * blocks) c.block_room.ensures.value c.blocks-blocks.ensures.value in
    rw is (ahead_later c.args.carrier c.args.id a.cfi a.start a.blocks c.args.i c.loop-symbol.symbol c.loop-symbol.left
    c.start-start.ensures.valid.are.inside (subst (λ n. c.loop-symbol.symbol < 2 * n) c.slot_symbols-symbol-end.ensures.value c.loop-symbol-test.true) (omega arith) (omega (arith, is)) c.loop-symbol.invariant)

pub unreachable-requires : goal.unreachable-requires
unreachable-requires c =
    let a = c.args.assignment.now in
    ahead_never c.args.carrier c.args.id a.cfi a.start a.blocks c.args.i c.loop-symbol.symbol c.loop-symbol.left
    (subst (λ n. 2 * n ≤ c.loop-symbol.symbol) c.slot_symbols-symbol-end.ensures.value (omega arith)) c.loop-symbol.invariant

pub returns-then-left-room-clause-place : goal.returns-then-left-room-clause-place
returns-then-left-room-clause-place c =
    let a = c.args.assignment.now in
    let is = ap₂ (λ (room blocks : ℕ). room * blocks) c.block_room.ensures.value c.blocks-blocks.ensures.value in
    ap₂ (λ (start n : ℕ). place c.loop-symbol.symbol (12 * start + n)) c.start-start.ensures.value c.offset_in.ensures.value
    ∙ ahead_here c.args.carrier c.args.id a.cfi a.start a.blocks c.args.i c.loop-symbol.symbol c.loop-symbol.left
    c.start-start.ensures.valid.are.inside (subst (λ n. c.loop-symbol.symbol < 2 * n) c.slot_symbols-symbol-end.ensures.value c.loop-symbol-test.true) (omega arith) (omega (arith, is)) c.loop-symbol.invariant

pub returns-then-left-room-clause-item : goal.returns-then-left-room-clause-item
returns-then-left-room-clause-item c =
    let a = c.args.assignment.now in
    let known = c.start-start.ensures.valid in
    let count = pdsch_count c.args.carrier c.args.id a.cfi a.start a.blocks known.wide (omega arith) known.are.inside in
    pdsch_item c.args.carrier c.args.id a.cfi a.start a.blocks c.args.i (rw count c.requires) ∙ ap Some (sym (returns-then-left-room-clause-place c))

pub returns-then-left-room-clause-carries : goal.returns-then-left-room-clause-carries
returns-then-left-room-clause-carries c =
    let a = c.args.assignment.now in
    let known = c.start-start.ensures.valid in
    let count = pdsch_count c.args.carrier c.args.id a.cfi a.start a.blocks known.wide (omega arith) known.are.inside in
    ap (is_shared_of c.args.carrier c.args.id a.cfi a.start a.blocks) (returns-then-left-room-clause-place c)
    ∙ pdsch_carries c.args.carrier c.args.id a.cfi a.start a.blocks c.args.i (rw count c.requires)
