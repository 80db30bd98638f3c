-- The broadcast channel's soft values have the signs of the bits that it carries.
use Rattle.std.proofs.Common.{◌≡◌, ℕ, ◌+◌, ◌*◌, ◌/◌, ◌<◌, arith, sym, subst, Bool, slice_index_or, pos}
use Rattle.finite.proofs.Lists.{values_below_at, values_below-length}
use Rattle.cs_num.specs.declared.Cpx.{Cpx}
use Rattle.cs_bits.specs.Signs.{Supports}
use Rattle.crs.specs.Reference.{long_prefix}
use Rattle.grid_map.specs.declared.Place.{Place}
use Rattle.grid_map.specs.Place.{place}
use Rattle.soft_bits.specs.Soft.{SeenSlot, seen_at}
use Rattle.budget.specs.Received.{IsSeenAs}
use Rattle.cell_grid.specs.Points.{point_of}
use Rattle.clean_air.specs.Values.{SupportBoth, ArePatternSeen}
use Rattle.clean_air.specs.Carried.{AreHeard}
use Rattle.clean_air.proofs.SoftValues.{seen_pair_supports_bits}
use Rattle.clean_air.proofs.Speaking.{one_value}
use Rattle.grid_map.specs.LongBroadcast.{long_places}
use Rattle.long_prefix.specs.Entries.{long_pair, long_value, long_values}
use Rattle.grid_map.proofs.LongOrder.{long_place_is}

module _ (gain : Cpx) (rows : ℕ → ℕ → Cpx) (slot : SeenSlot) (pilots : ArePatternSeen 2316 long_prefix gain slot)
    (places : (symbol k : ℕ) → symbol < 6 → k < 72 → IsSeenAs 2316 gain (rows symbol k) (seen_at slot symbol k)) (bits : ℕ → Bool) (carry : (i : ℕ) → i < 216 → let p = slice_index_or (long_places slot.identity) i (place 0 0) in rows p.symbol p.k ≡ point_of bits i) where
  -- both values of a resource element have the signs of its bits
  both : (i : ℕ) → i < 216 → SupportBoth 1 (bits (2 * i)) (bits (2 * i + 1)) (long_pair slot (slice_index_or (long_places slot.identity) i (place 0 0)))
  unfolding long_pair
  both i inside =
      let p : Place = slice_index_or (long_places slot.identity) i (place 0 0) in
      let at = long_place_is slot.identity i inside in
      let few = at.symbol in
      seen_pair_supports_bits long_prefix gain slot (seen_at slot p.symbol p.k) p.k (bits (2 * i)) (bits (2 * i + 1)) pilots
      (subst (λ (z : Cpx). IsSeenAs 2316 gain z (seen_at slot p.symbol p.k)) (carry i inside) (places p.symbol p.k (omega (arith, few)) at.k))

  -- all 432 values have the signs of their bits
  pub values_heard : AreHeard 1 432 bits (long_values slot)
  unfolding long_values
  values_heard = record {
    size = values_below-length 432 (long_value slot);
    value = λ i inside. subst (Supports 1 (bits i)) (sym (values_below_at (long_value slot) 432 i (pos 0) inside))
        (one_value (long_pair slot (slice_index_or (long_places slot.identity) (i / 2) (place 0 0))) i bits (both (i / 2) (omega (arith, inside))));
  }
