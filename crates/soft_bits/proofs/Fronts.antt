-- Soft values in a slot's first four symbols depend only on its front.
use Rattle.std.proofs.Common.{◌≡◌, ℕ, Bool, true, false, nat_eq, ◌+◌, ◌*◌, ◌/◌, ◌%◌, ◌<◌, length, get_or, pos, ap, ap₂, sym, ◌∙◌, arith}
use Rattle.std.specs.Prelude.{if◌then◌else◌}
use Rattle.std.proofs.lemmas.List.{ext_get_or}
use Rattle.finite.proofs.Lists.{joined_below_same}
use Rattle.cs_num.specs.declared.Cpx.{Cpx}
use Rattle.cs_num.specs.Complex.{times, conjugate}
use Rattle.lte_types.specs.declared.carrier.Carrier.{Carrier}
use Rattle.lte_types.specs.declared.carrier.Carrier.TheVariants.{OnePort}
use Rattle.lte_types.specs.Carrier.{ports_of}
use Rattle.crs.specs.Reference.{port_0}
use Rattle.grid_map.specs.declared.Place.{Place}
use Rattle.grid_map.specs.Place.{place}
use Rattle.soft_bits.specs.Soft.{SeenSlot, seen_at, soft_pair, soft_values}
use Rattle.soft_bits.specs.Lines.{port_channel, ports_energy}
use Rattle.soft_bits.specs.Pairs.{Pairing, point_values, pair_values, pair_at, paired_by, values_over}
use Rattle.soft_bits.specs.Places.{placed_values}
use Rattle.soft_bits.specs.Front.{HaveOneFront, LooksAtFront}
use Rattle.soft_bits.proofs.Channel.{length-placed, placed-at}
use Rattle.soft_bits.proofs.Lines.{lower_channel_is, lower_energy_is, front_seen, front_channel, front_energy, front_port_channel, front_ports_energy}

front_values : (a b : SeenSlot) → HaveOneFront a b → (symbol k : ℕ) → symbol < 5 → soft_values a symbol k ≡ soft_values b symbol k
unfolding soft_values
front_values a b one symbol k below =
    ap₂ soft_pair
    (ap₂ (λ (x h : Cpx). times x (conjugate h)) (front_seen a b one symbol k below) (lower_channel_is port_0 a k ∙ front_channel a b one OnePort 0 k ∙ sym (lower_channel_is port_0 b k)))
    (lower_energy_is port_0 a ∙ front_energy a b one OnePort 0 ∙ sym (lower_energy_is port_0 b))

pub placed_look_at_front : LooksAtFront placed_values
placed_look_at_front a b places one inside =
    let first = length-placed (λ p. a) places in
    let second = length-placed (λ p. b) places in
    ext_get_or (pos 0) (placed_values (λ p. a) places) (placed_values (λ p. b) places) (first ∙ sym second)
    (λ i below.
    let few : i < 2 * length places = omega (arith, below, first) in
    let p : Place = get_or places (i / 2) (place 0 0) in
    placed-at (λ p. a) places i few
    ∙ ap (λ values. get_or values (i % 2) (pos 0)) (front_values a b one (p.symbol % 7) p.k (let h = inside (i / 2) in omega (arith, h)))
    ∙ sym (placed-at (λ p. b) places i few))

-- ---- pairs

module _ (pairing : Pairing) where
  front_pair : (i : ℕ) (a b : SeenSlot) (p q : Place) → HaveOneFront a b → p.symbol % 7 < 4 → q.symbol % 7 < 4 → pair_values pairing i a p q ≡ pair_values pairing i b p q
  unfolding pair_values
  front_pair i a b p q one first second =
      let energy : SeenSlot → ℕ = ports_energy pairing.carrier in
      let lower : SeenSlot → Cpx = λ slot. port_channel pairing.scale pairing.carrier (pairing.lower i) slot p.k in
      let upper : SeenSlot → Cpx = λ slot. port_channel pairing.scale pairing.carrier (pairing.upper i) slot p.k in
      let at : SeenSlot → Place → Cpx = λ slot r. seen_at slot (r.symbol % 7) r.k in
      ap₂ (λ (h k : Cpx). point_values h k (energy a) (at a p) (at a q)) (front_port_channel a b one pairing.scale pairing.carrier (pairing.lower i) p.k) (front_port_channel a b one pairing.scale pairing.carrier (pairing.upper i) p.k)
      ∙ ap (λ (e : ℕ). point_values (lower b) (upper b) e (at a p) (at a q)) (front_ports_energy a b one pairing.carrier)
      ∙ ap₂ (λ (x y : Cpx). point_values (lower b) (upper b) (energy b) x y) (front_seen a b one (p.symbol % 7) p.k (omega (arith, first))) (front_seen a b one (q.symbol % 7) q.k (omega (arith, second)))

  pub paired_look_at_front : LooksAtFront (paired_by pairing)
  unfolding paired_by
  paired_look_at_front a b places one inside =
      joined_below_same (length places / 2) (pair_at pairing (λ p. a) places) (pair_at pairing (λ p. b) places)
      (λ i _. front_pair i a b (get_or places (2 * i) (place 0 0)) (get_or places (2 * i + 1) (place 0 0)) one (inside (2 * i)) (inside (2 * i + 1)))

-- ---- one port or several

pub values_look_at_front : (carrier : Carrier) (pairing : Pairing) → LooksAtFront (values_over carrier pairing)
values_look_at_front carrier pairing = either (nat_eq (ports_of carrier) 1)
  where
    either : (one : Bool) → LooksAtFront (if one then placed_values else paired_by pairing)
    either true = placed_look_at_front
    either false = paired_look_at_front pairing
