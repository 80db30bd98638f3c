-- Each port's channel estimate in a slot is a multiple of the port's gain, up to a deviation.
use Rattle.std.proofs.Common.{◌≡◌, ℕ, zero, suc, ◌*◌, ◌/◌, ◌<◌, ◌≤◌, ◌≢◌, false, inl, inr, nat_eq, arith, refl, ap, ap₂, sym, ◌∙◌, subst, eq-eqb}
use Rattle.std.proofs.lemmas.Bool.{ne_eqb}
use Rattle.std.proofs.lemmas.Bool.Decides.{eqb_tells}
use Rattle.cs_num.specs.declared.Cpx.{Cpx}
use Rattle.cs_num.specs.Complex.{plus, minus, times, square, multiple}
use Rattle.cs_num.proofs.Complex.{plus-nothing}
use Rattle.cs_num.proofs.Sums.{complex_sum_below_same, complex_sum_below_plus}
use Rattle.norms.specs.Magnitudes.{energy_below}
use Rattle.norms.proofs.Algebra.{plus-nothing_right, times-nothing, sum_of_one}
use Rattle.lte_types.specs.declared.carrier.Carrier.{Carrier}
use Rattle.lte_types.specs.Carrier.{ports_of}
use Rattle.crs.specs.Reference.{pattern_of, reference}
use Rattle.crs.proofs.Values.{reference-IsPoint}
use Rattle.soft_bits.specs.Lines.{Line, line_of, line_pilot, line_seen, line_channel, port_channel}
use Rattle.soft_bits.specs.Soft.{SeenSlot}
use Rattle.soft_bits.proofs.Lines.{is_line}
use Rattle.budget.specs.Received.{in_parts, received_of}
use Rattle.budget.proofs.Deviations.{deviation}
use Rattle.budget.proofs.Near.{IsNear, near-multiple, line-near}
use Rattle.budget.proofs.Pilots.{IsPilot, full-size, sent-size, turned_pilot-near}
use Rattle.two_ports.specs.Received.{only, over, ArePortsSeen}

-- ---- symbols received where one port sends, and where two do

pub received_of_one : (ports port : ℕ) (gains : ℕ → Cpx) (z : Cpx) → port < ports → received_of ports gains (only port z) ≡ times (gains port) z
received_of_one ports port gains z l =
    sum_of_one ports port (λ other. times (gains other) (only port z other)) l
    (λ other few apart. rw (ne_eqb other port apart) (times-nothing (gains other)))
    ∙ rw (eq-eqb port port refl) refl

pub received_of_two : (ports lower upper : ℕ) (gains : ℕ → Cpx) (a b : Cpx) → lower < ports → upper < ports → lower ≢ upper →
    received_of ports gains (over lower upper a b) ≡ plus (times (gains lower) a) (times (gains upper) b)
received_of_two ports lower upper gains a b l m apart =
    complex_sum_below_same ports _ (λ other. plus (times (gains other) (only lower a other)) (times (gains other) (only upper b other))) (λ other few. split other)
    ∙ complex_sum_below_plus ports (λ other. times (gains other) (only lower a other)) (λ other. times (gains other) (only upper b other))
    ∙ ap₂ plus (received_of_one ports lower gains a l) (received_of_one ports upper gains b m)
  where
    split : (other : ℕ) → times (gains other) (over lower upper a b other) ≡ plus (times (gains other) (only lower a other)) (times (gains other) (only upper b other))
    split other = elim (eqb_tells other lower) [
      | inl (is, same) ↦
          let none : nat_eq other upper ≡ false = ne_eqb other upper (λ e. apart (sym same ∙ e)) in
          rw (is, none) (sym (ap (plus (times (gains other) a)) (times-nothing (gains other)) ∙ plus-nothing_right (times (gains other) a)))
      | inr (is, different) ↦
          rw is (sym (ap (λ (z : Cpx). plus z (times (gains other) (only upper b other))) (times-nothing (gains other)) ∙ plus-nothing (times (gains other) (only upper b other))))
    ]

-- ---- a port's pilots

reference-size : (carrier : Carrier) (port : ℕ) (slot : SeenSlot) (i : ℕ) → square ((line_of carrier port slot).sent i) ≡ 16200
reference-size carrier zero slot i = sent-size (pattern_of carrier 0) slot.identity slot.number i
reference-size carrier (suc zero) slot i = sent-size (pattern_of carrier 1) slot.identity slot.number i
reference-size carrier (suc (suc n)) slot i = full-size (reference slot.identity slot.number 1 i) (reference-IsPoint slot.identity slot.number 1 i)

-- a line's pilots are observed with this gain, each off by at most t times the root of n
pub record AreLinePilots (t n : ℕ) (gain : Cpx) (line : Line) (slot : SeenSlot) : Type 0 where
  pub each : (i : ℕ) → i ≤ line.last → IsPilot t n gain (line.sent i) (line_seen line slot i)

pub pilots_alone : (carrier : Carrier) (most : ℕ) (gains : ℕ → Cpx) (slot : SeenSlot) → ArePortsSeen carrier most gains slot → (port : ℕ) → port < ports_of carrier →
    AreLinePilots most (energy_below (ports_of carrier) gains) (gains port) (line_of carrier port slot) slot
unfolding deviation
pilots_alone carrier most gains slot seen port l =
    let ports : ℕ = ports_of carrier in
    let line : Line = line_of carrier port slot in
    record {
      each = λ i few. record {
        full = reference-size carrier port slot i;
        seen = record {
          bounded = subst (λ (z : Cpx). square (minus (in_parts (line_seen line slot i)) (multiple 64 z)) ≤ most * most * energy_below ports gains)
              (received_of_one ports port gains (line.sent i) l) (seen.pilots port i l few).off;
        };
      };
    }

-- ---- a port's channel

scaled : (m step scale c : ℕ) → m * step ≡ scale → m * (step * c) ≡ scale * c
scaled m step scale c e = let f : m * step * c ≡ scale * c = ap (λ (n : ℕ). n * c) e in omega (arith, f)

line_channel-near : (t n : ℕ) (gain : Cpx) (line : Line) (slot : SeenSlot) (k : ℕ) → 1 ≤ line.step → AreLinePilots t n gain line slot →
    IsNear (16200 * n) gain (line.step * 1036800) (line.step * t) (line_channel line slot k)
unfolding line_channel
line_channel-near t n gain line slot k some pilots =
    line-near (16200 * n) gain 1036800 t (line_pilot line slot) line.step line.last some
    (λ i l. turned_pilot-near t n gain (line.sent i) (line_seen line slot i) (pilots.each i l)) line.first k

-- the channel estimate is 64 * 16200 times the gain, times the scale factor
pub port_channel-near : (t n scale : ℕ) (carrier : Carrier) (port : ℕ) (gain : Cpx) (slot : SeenSlot) (k : ℕ) → scale / (line_of carrier port slot).step * (line_of carrier port slot).step ≡ scale →
    AreLinePilots t n gain (line_of carrier port slot) slot → IsNear (16200 * n) gain (scale * 1036800) (scale * t) (port_channel scale carrier port slot k)
port_channel-near t n scale carrier port gain slot k whole pilots =
    let line : Line = line_of carrier port slot in
    let m = scale / line.step in
    let channel : Cpx = port_channel scale carrier port slot k in
    subst (λ (c : ℕ). IsNear (16200 * n) gain c (scale * t) channel) (scaled m line.step scale 1036800 whole)
    (subst (λ (s : ℕ). IsNear (16200 * n) gain (m * (line.step * 1036800)) s channel) (scaled m line.step scale t whole)
    (near-multiple (16200 * n) gain (line_channel line slot k) m (line.step * 1036800) (line.step * t) (line_channel-near t n gain line slot k (is_line carrier port slot).some pilots)))
