use Rattle.std.proofs.Common.{◌≡◌, ◌∙◌, ℕ, ◌+◌, ◌*◌, List, ◌++◌, ◌∷◌, [], ℤ, length, ap, ap₂, arith, sym, subst}
use Rattle.finite.specs.Lists.{values_below}
use Rattle.finite.proofs.Lists.{values_below_more}
use Rattle.pbch.specs.Values.{received_values, summed_values}
use Rattle.pbch.specs.Master.{DecodesMaster}
use Rattle.std.specs.List.{flat_map}
use Rattle.lte_types.specs.CellPlace.{Place}
use Rattle.explain.specs.Frame.{IsWhole, broadcast_slot}
use Rattle.explain.specs.Receiver.{one_port_receiver}
use Rattle.explain.specs.Entries.{master_of}
use Rattle.explain.proofs.Listed.{is_sound}
use Rattle.explain.proofs.Valid.{starts_early}
use Rattle.explain.proofs.cells.values_of.Goals as goal

pub place_in-place-requires : goal.place_in-place-requires
place_in-place-requires c = starts_early c.args.recording.now c.args.entry.now c.requires

pub overflow_add-entry : goal.overflow_add-entry
overflow_add-entry c =
    let s = is_sound one_port_receiver c.args.recording.now c.requires.list c.args.entry.now c.requires.explained c.requires.inside in
    let known = s.is_of.frames.inside.known in
    let test = c.loop-m-test.true in
    omega (arith, known, test)

pub broadcast_slot-requires : goal.broadcast_slot-requires
broadcast_slot-requires c =
    let s = is_sound one_port_receiver c.args.recording.now c.requires.list c.args.entry.now c.requires.explained c.requires.inside in
    subst (λ p. IsWhole c.args.recording.now p.start (c.args.entry.now.frame + c.loop-m.m)) (sym c.place_in-place.ensures) (s.is_of.frames.inside.whole c.loop-m.m c.loop-m-test.true)

pub push-requires : goal.push-requires
push-requires c =
    let s = is_sound one_port_receiver c.args.recording.now c.requires.list c.args.entry.now c.requires.explained c.requires.inside in
    let few = s.is_of.frames.inside.few in
    let test = c.loop-m-test.true in
    let count = c.loop-m.invariant.count in
    omega (arith, few, test, count)

pub loop-m-preserved : goal.loop-m-preserved
loop-m-preserved c =
    let entry = c.args.entry.now in
    let m = c.loop-m.m in
    let at : ℕ → List ℤ = λ m. received_values (broadcast_slot c.args.recording.now entry.id entry.start (entry.frame + m)) in
    let is : c.received.result ≡ at m =
    c.received.ensures.values ∙ ap received_values (c.broadcast_slot.ensures ∙ ap (λ (p : Place). broadcast_slot c.args.recording.now p.id p.start (entry.frame + m)) c.place_in-place.ensures) in
    record {
      so_far = c.push.ensures.items ∙ ap₂ (λ frames frame. frames ++ frame ∷ []) c.loop-m.invariant.so_far is ∙ sym (values_below_more m at);
      count = c.push.ensures.len ∙ ap (λ n. n + 1) c.loop-m.invariant.count;
    }

pub sums_of-requires : goal.sums_of-requires
sums_of-requires c =
    let s = is_sound one_port_receiver c.args.recording.now c.requires.list c.args.entry.now c.requires.explained c.requires.inside in
    let period = s.is_of.period in
    let all = ap length c.as_slice.ensures.value in
    let count = c.loop-m.invariant.count in
    let last = c.loop-m-test.false in
    let end = c.loop-m.auto in
    omega (arith, period, all, count, last, end)

pub returns-clause-values : goal.returns-clause-values
returns-clause-values c =
    let recording = c.args.recording.now in
    let entry = c.args.entry.now in
    let at : ℕ → List ℤ = λ m. received_values (broadcast_slot recording entry.id entry.start (entry.frame + m)) in
    let last = c.loop-m-test.false in
    let end = c.loop-m.auto.m-end in
    let all : c.loop-m.m ≡ entry.frames = omega (arith, last, end) in
    c.sums_of.ensures.values
    ∙ ap (λ frames. summed_values entry.id (480 * entry.phase) (flat_map (λ frame. frame) frames)) (c.as_slice.ensures.value ∙ c.loop-m.invariant.so_far ∙ ap (λ n. values_below n at) all)

pub returns-clause-master : goal.returns-clause-master
returns-clause-master c =
    let entry = c.args.entry.now in
    let s = is_sound one_port_receiver c.args.recording.now c.requires.list entry c.requires.explained c.requires.inside in
    subst (λ v. DecodesMaster v (master_of entry)) (sym (returns-clause-values c)) s.is_of.master.decoded
