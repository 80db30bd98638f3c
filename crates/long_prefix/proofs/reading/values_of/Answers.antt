use Rattle.std.proofs.Common.{◌/◌, ◌%◌, ◌≤◌, ◌∙◌, List, pos, nat_abs, arith, ap, sym, subst, slice_index_or}
use Rattle.std.specs.Prelude.{All}
use Rattle.std.proofs.lemmas.List.FromFn.{fill_by_all}
use Rattle.grid_map.specs.declared.Place.{Place}
use Rattle.grid_map.specs.Place.{place}
use Rattle.soft_bits.specs.Kept.{slot_of}
use Rattle.soft_bits.specs.Soft.{SeenSlot}
use Rattle.long_prefix.specs.Entries.{long_pair, long_value, long_values}
use Rattle.long_prefix.proofs.Pairs.{long_values-small}
use Rattle.long_prefix.proofs.reading.values_of.Goals as goal

pub returns-clause-values : goal.returns-clause-values
unfolding long_values
returns-clause-values c =
    let slot : SeenSlot = slot_of c.args.seen.now in
    fill_by_all (long_value slot) c.loop-i.values 432 (pos 0) c.loop-i.invariant.whole
    (λ k inside. c.loop-i.invariant.each k (omega (arith, inside, c.loop-i-test.false))
    ∙ ap (λ (ps : List Place). slice_index_or (long_pair slot (slice_index_or ps (k / 2) (place 0 0))) (k % 2) (pos 0)) c.long_places-places.ensures.places)

pub returns-clause-magnitudes : goal.returns-clause-magnitudes
returns-clause-magnitudes c =
    subst (λ values. All (λ value. nat_abs value ≤ 127) values) (sym (returns-clause-values c)) (long_values-small (slot_of c.args.seen.now))
