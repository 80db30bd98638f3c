-- A slot's soft values are within their bounds.
use Rattle.std.proofs.Common.{ℕ, ◌/◌, ◌%◌, ◌<◌, ◌≤◌, slice_index_or, pos, nat_abs, arith}
use Rattle.std.specs.Prelude.{All}
use Rattle.std.proofs.lemmas.List.Elements.{All-get_or}
use Rattle.finite.proofs.Lists.{values_below-All}
use Rattle.cs_num.specs.declared.Cpx.{Cpx}
use Rattle.cs_num.specs.Complex.{times, conjugate}
use Rattle.crs.specs.Reference.{long_prefix}
use Rattle.grid_map.specs.declared.Place.{Place}
use Rattle.grid_map.specs.Place.{place}
use Rattle.soft_bits.specs.Soft.{SeenSlot, seen_at, pattern_channel, pattern_energy, soft_pair}
use Rattle.soft_bits.proofs.Paired.{pair-small}
use Rattle.grid_map.specs.LongBroadcast.{long_places}
use Rattle.long_prefix.specs.Entries.{long_pair, long_value, long_values}

value_small : (slot : SeenSlot) (p : Place) (n : ℕ) → n < 2 → nat_abs (slice_index_or (long_pair slot p) n (pos 0)) ≤ 127
unfolding long_pair
value_small slot p n below =
    let z : Cpx = times (seen_at slot p.symbol p.k) (conjugate (pattern_channel long_prefix slot p.k)) in
    All-get_or (λ v. nat_abs v ≤ 127) (soft_pair z (pattern_energy long_prefix slot)) n (pos 0) below (pair-small z (pattern_energy long_prefix slot))

pub long_values-small : (slot : SeenSlot) → All (λ v. nat_abs v ≤ 127) (long_values slot)
unfolding long_values
long_values-small slot =
    values_below-All (λ v. nat_abs v ≤ 127) 432 (long_value slot) (pos 0)
    (λ i below. value_small slot (slice_index_or (long_places slot.identity) (i / 2) (place 0 0)) (i % 2) (omega arith))
