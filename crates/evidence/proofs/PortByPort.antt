-- A slot's measurements, port by port.
use Rattle.std.proofs.Common.{◌≡◌, ℕ, zero, suc, ◌+◌, ◌*◌, ◌/◌, ◌<◌, ◌≤◌, List, [], ℤ, length, refl, ap, ap₂, sym, subst, ◌∙◌, arith}
use Rattle.finite.specs.Sums.{total_below}
use Rattle.finite.specs.Lists.{values_below}
use Rattle.finite.proofs.Lists.{values_below-length, values_below_more}
use Rattle.finite.proofs.Sums.{total_below_more}
use Rattle.lte_types.specs.declared.carrier.Carrier.{Carrier}
use Rattle.lte_types.specs.Carrier.{ports_of}
use Rattle.soft_bits.specs.Soft.{SeenSlot}
use Rattle.soft_bits.specs.Lines.{Line, line_of, line_pilot, line_pilots, ports_energy}
use Rattle.soft_bits.specs.Kept.{SeenLine, seen_line}
use Rattle.soft_bits.proofs.Lines.{few_ports}
use Rattle.evidence.specs.Evidence.{SlotShown, line_differences, with_port}
use Rattle.evidence.proofs.SecondDifferences.{differences_of_list}

-- a port has enough pilots for second differences
pub record IsClose (port : SeenLine) : Type 0 where
  pub step : 0 < port.step
  pub some : 2 * (6 / port.step) ≤ length port.pilots

module _ (carrier : Carrier) (slot : SeenSlot) where
  close : (n : ℕ) → IsClose (seen_line (line_of carrier n slot) slot)
  close zero = record { step = omega arith; some = let e = values_below-length 24 (line_pilot (line_of carrier 0 slot) slot) in omega (arith, e) }
  close (suc zero) = record { step = omega arith; some = let e = values_below-length 24 (line_pilot (line_of carrier 1 slot) slot) in omega (arith, e) }
  close (suc (suc n)) = record { step = omega arith; some = let e = values_below-length 12 (line_pilot (line_of carrier (suc (suc n)) slot) slot) in omega (arith, e) }

  pub port_is_close : (n : ℕ) (port : SeenLine) → port ≡ seen_line (line_of carrier n slot) slot → IsClose port
  port_is_close n port is = subst (λ (p : SeenLine). IsClose p) (sym is) (close n)

  module _ (received : List ℤ) where
    -- the measurements of the first n ports
    abbrev pub first_ports : ℕ → SlotShown
    first_ports n = record {
      power = ports_energy carrier slot;
      differences = total_below n (λ port. line_differences (line_of carrier port slot) slot);
      channel = values_below n (λ port. seen_line (line_of carrier port slot) slot);
      values = received;
    }

    pub none_yet : ◌≡◌ {A = SlotShown} (record { power = ports_energy carrier slot; differences = 0; channel = []; values = received }) (first_ports 0)
    unfolding total_below
    none_yet = refl

    pub one_more : (n : ℕ) (shown : SlotShown) (port : SeenLine) → shown ≡ first_ports n → port ≡ seen_line (line_of carrier n slot) slot → with_port shown port ≡ first_ports (n + 1)
    one_more n shown port before is =
        let line : Line = line_of carrier n slot in
        ap₂ with_port before is
        ∙ (λ i. record {
          power = ports_energy carrier slot;
          differences = (ap (λ d. total_below n (λ port. line_differences (line_of carrier port slot) slot) + d) (differences_of_list (line.last + 1) (6 / line.step) (line_pilots line slot) (line_pilot line slot) refl)
              ∙ sym (total_below_more n (λ port. line_differences (line_of carrier port slot) slot))) i;
          channel = sym (values_below_more n (λ port. seen_line (line_of carrier port slot) slot)) i;
          values = received;
        })

    -- there is room for each port before it is added
    pub has_room : (n : ℕ) (shown : SlotShown) → shown ≡ first_ports n → n < ports_of carrier → length shown.channel < 4
    has_room n shown is below =
        let e : length shown.channel ≡ n = ap (λ (s : SlotShown). length s.channel) is ∙ values_below-length n (λ port. seen_line (line_of carrier port slot) slot) in
        let few = few_ports carrier in omega (arith, e, below, few)
