use Rattle.std.proofs.Common.{◌∙◌, ◌/◌, ℕ, arith, sym, subst, length}
use Rattle.finite.specs.Sizes.{AllWithin}
use Rattle.finite.proofs.Lists.{joined_below_none}
use Rattle.grid_map.specs.declared.Place.{Place}
use Rattle.soft_bits.specs.Soft.{SeenSlot}
use Rattle.soft_bits.specs.Places.{in_subframe}
use Rattle.soft_bits.specs.Pairs.{pair_at, paired_by}
use Rattle.soft_bits.proofs.Paired.{four_more, fours_done, length-pair_at, paired_by-small}
use Rattle.soft_bits.proofs.pairs.fill_pairs.Goals as goal

pub loop-i-init : goal.loop-i-init
loop-i-init g c = sym (joined_below_none _)

pub loop-i-preserved : goal.loop-i-preserved
loop-i-preserved g c =
    let slot : Place → SeenSlot = in_subframe c.args.first.now c.args.second.now in
    let places = c.args.places.now in
    let i : ℕ = c.loop-i.i in
    let whole = c.loop-i.auto.values in
    let room = c.requires.room in
    let test = c.loop-i-test.true in
    four_more i (pair_at g.K.Ports.pairing slot places) c.loop-i.values c.copy_from_slice.new.self (length-pair_at g.K.Ports.pairing slot places i) (omega (arith, whole, room, test)) c.loop-i.invariant
    (c.copy_from_slice.ensures.after ∙ c.pair_at-four.ensures.values)

pub returns-clause-values : goal.returns-clause-values
unfolding paired_by
returns-clause-values g c =
    let slot : Place → SeenSlot = in_subframe c.args.first.now c.args.second.now in
    let whole = c.loop-i.auto.values in
    let room = c.requires.room in
    let even = c.requires.even in
    let end = c.loop-i-test.false in
    let most = c.loop-i.auto.i-end in
    let places = c.args.places.now in
    fours_done c.loop-i.i (length places / 2) (pair_at g.K.Ports.pairing slot places) c.loop-i.values (omega (arith, whole, room, even)) (omega (arith, end, most)) c.loop-i.invariant

pub returns-clause-magnitudes : goal.returns-clause-magnitudes
returns-clause-magnitudes g c =
    subst (AllWithin 127) (sym (returns-clause-values g c))
    (paired_by-small g.K.Ports.pairing (in_subframe c.args.first.now c.args.second.now) c.args.places.now)
