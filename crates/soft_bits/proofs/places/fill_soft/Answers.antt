use Rattle.std.proofs.Common.{◌≤◌, nat_abs, pos, sym, subst, ◌∙◌, arith}
use Rattle.std.specs.Prelude.{All}
use Rattle.std.proofs.lemmas.List.{ext_get_or}
use Rattle.grid_map.specs.declared.Place.{Place}
use Rattle.soft_bits.specs.Soft.{SeenSlot}
use Rattle.soft_bits.specs.Places.{in_subframe, placed_values}
use Rattle.soft_bits.proofs.Channel.{length-placed, placed-at, placed-small}
use Rattle.soft_bits.proofs.places.fill_soft.Goals as goal

pub returns-clause-values : goal.returns-clause-values
returns-clause-values g c =
    let slot : Place → SeenSlot = in_subframe c.args.first.now c.args.second.now in
    let places = c.args.places.now in
    let whole = c.loop-i.invariant.whole in
    ext_get_or (pos 0) c.loop-i.values (placed_values slot places) (whole ∙ sym (length-placed slot places))
    (λ k below. c.loop-i.invariant.each k (omega (arith, whole, below)) ∙ sym (placed-at slot places k (omega (arith, whole, below))))

pub returns-clause-magnitudes : goal.returns-clause-magnitudes
returns-clause-magnitudes g c =
    subst (λ values. All (λ value. nat_abs value ≤ 127) values) (sym (returns-clause-values g c)) (placed-small (in_subframe c.args.first.now c.args.second.now) c.args.places.now)
