-- Lines of pilots: one for each port, by its pattern, the channel along them, and their dependence only on the slot's
-- first symbols.
use Rattle.std.proofs.Common.{◌≡◌, ℕ, zero, suc, ◌+◌, ◌-◌, ◌*◌, ◌/◌, ◌<◌, ◌≤◌, ◌⊎◌, inl, inr, Bool, true, false, arith, List, ℤ, pos, refl, ap, ap₂, sym, subst, ◌∙◌}
use Rattle.std.specs.Prelude.{if◌then◌else◌, ◌*ℤ◌}
use Rattle.std.proofs.Math.Path.{fun_ext}
use Rattle.std.proofs.lemmas.Int.{ints}
use Rattle.finite.specs.Sums.{total_below}
use Rattle.finite.proofs.Lists.{values_below-length, values_below_at}
use Rattle.finite.proofs.Sums.{total_below_same}
use Rattle.cs_num.specs.declared.Cpx.{Cpx}
use Rattle.cs_num.specs.Complex.{times, conjugate, multiple, square, value_at, nothing}
use Rattle.cs_num.proofs.Complex.{pair}
use Rattle.lte_types.specs.declared.carrier.Carrier.{Carrier}
use Rattle.lte_types.specs.declared.carrier.Carrier.TheVariants.{OnePort, TwoPorts, LongPrefix, FourPorts}
use Rattle.lte_types.specs.Carrier.{ports_of}
use Rattle.crs.specs.declared.pattern.Pattern.{Pattern}
use Rattle.crs.specs.Reference.{pattern_of, upper_first, is_pattern_place}
use Rattle.soft_bits.specs.Estimate.{place_by, line_by}
use Rattle.soft_bits.specs.Soft.{SeenSlot, seen_at, pilot_subcarrier, pattern_symbol, pattern_seen, pattern_pilot, pattern_channel, pattern_energy}
use Rattle.soft_bits.specs.Front.{HaveOneFront}
use Rattle.soft_bits.specs.Kept.{seen_line, along}
use Rattle.soft_bits.specs.Lines.{Line, lower_line, upper_line, line_of, line_place, line_seen, line_pilot, line_pilots, line_channel, line_energy, port_channel, port_energy, ports_energy}
use Rattle.soft_bits.proofs.Estimates.{line-same}

-- ---- by patterns

pub lower_channel_is : (pattern : Pattern) (slot : SeenSlot) (k : ℕ) → pattern_channel pattern slot k ≡ line_channel (lower_line pattern slot) slot k
unfolding pattern_channel pattern_pilot pattern_seen line_channel
lower_channel_is pattern slot k = refl

pub lower_energy_is : (pattern : Pattern) (slot : SeenSlot) → pattern_energy pattern slot ≡ line_energy (lower_line pattern slot) slot
unfolding pattern_energy pattern_seen line_energy
lower_energy_is pattern slot = refl

-- the channel along the first port's line
pub line_channel_is : (carrier : Carrier) (slot : SeenSlot) (k : ℕ) → line_channel (line_of carrier 0 slot) slot k ≡ pattern_channel (pattern_of carrier 0) slot k
line_channel_is carrier slot k = sym (lower_channel_is (pattern_of carrier 0) slot k)

-- one times a number is the number
pub once : (z : Cpx) → multiple 1 z ≡ z
once z = pair (one-times z.re) (one-times z.im)
  where
    one-times : (x : ℤ) → pos 1 *ℤ x ≡ x
    one-times x = omega (arith, ints)

-- with one port, the energy over all ports is that port's pilot energy
pub energy_of_one : (carrier : Carrier) (slot : SeenSlot) → ports_of carrier ≡ 1 → ports_energy carrier slot ≡ pattern_energy (pattern_of carrier 0) slot
unfolding ports_energy total_below
energy_of_one carrier slot one =
    ap (λ (n : ℕ). total_below n (port_energy carrier slot)) one
    ∙ sums (line_energy (lower_line (pattern_of carrier 0) slot) slot) ∙ sym (lower_energy_is (pattern_of carrier 0) slot)
  where
    sums : (a : ℕ) → 0 + 1 * a ≡ a
    sums a = omega arith

-- ---- the ports of a carrier

-- the later symbol of a pattern is one of the first five
later-early : (carrier : Carrier) (port : ℕ) → (pattern_of carrier port).later < 5
later-early OnePort port = omega arith
later-early TwoPorts port = omega arith
later-early LongPrefix port = omega arith
later-early FourPorts port = omega arith

pub few_ports : (carrier : Carrier) → ports_of carrier ≤ 4
few_ports OnePort = omega arith
few_ports TwoPorts = omega arith
few_ports LongPrefix = omega arith
few_ports FourPorts = omega arith

-- ---- any port

-- the pilots are in the first five symbols, on the 72 subcarriers, which 24 or 12 pilots fill
pub record IsLine (line : Line) : Type 0 where
  pub some : 1 ≤ line.step
  pub counted : 1 ≤ line.step / 3
  pub room : line.step / 3 * (line.last + 1) ≡ 24
  pub count : ((line.step ≡ 3) × (line.last ≡ 23)) ⊎ ((line.step ≡ 6) × (line.last ≡ 11))
  pub first : line.first < line.step
  pub row : (i : ℕ) → line.symbol i < 5
  pub inside : (i : ℕ) → i ≤ line.last → line_place line i < 72

pub is_line : (carrier : Carrier) (port : ℕ) (slot : SeenSlot) → IsLine (line_of carrier port slot)
unfolding pattern_symbol
is_line carrier port slot = by port
  where
    low : (pattern : Pattern) → pattern.later < 5 → IsLine (lower_line pattern slot)
    low pattern later = record {
      some = omega arith;
      counted = omega arith;
      room = refl;
      count = inl (refl, refl);
      first = omega arith;
      row = λ i. either (is_pattern_place pattern slot.identity 0 (pilot_subcarrier slot.identity i));
      inside = λ i l. omega (arith, l);
    }
      where
        either : (first : Bool) → (if first then 0 else pattern.later) < 5
        either true = omega arith
        either false = later

    high : (port : ℕ) → upper_first port slot.identity slot.number < 6 → IsLine (upper_line port slot)
    high port few = record { some = omega arith; counted = omega arith; room = refl; count = inr (refl, refl); first = few; row = λ i. omega arith; inside = λ i l. omega (arith, few, l) }

    by : (port : ℕ) → IsLine (line_of carrier port slot)
    by zero = low (pattern_of carrier 0) (later-early carrier 0)
    by (suc zero) = low (pattern_of carrier 1) (later-early carrier 1)
    by (suc (suc n)) = high (suc (suc n)) (omega arith)

-- ---- the channel along the kept pilots

-- between two pilots
between-last : (step last first k : ℕ) → ((step ≡ 3) × (last ≡ 23)) ⊎ ((step ≡ 6) × (last ≡ 11)) → k < place_by step first last → (k - first) / step < last
between-last step last first k (inl (s, l)) inside = subst (λ n. (k - first) / n < last) (sym s) (rw l (omega (arith, rw (s, l) at inside)))
between-last step last first k (inr (s, l)) inside = subst (λ n. (k - first) / n < last) (sym s) (rw l (omega (arith, rw (s, l) at inside)))

pub along_is : (line : Line) → IsLine line → (slot : SeenSlot) (k : ℕ) → along (seen_line line slot) k ≡ line_channel line slot k
unfolding line_channel
along_is line is slot k =
    ap (λ (n : ℕ). line_by line.step (n - 1) (value_at (line_pilots line slot)) line.first k) (values_below-length (line.last + 1) (line_pilot line slot))
    ∙ ap (λ (n : ℕ). line_by line.step n (value_at (line_pilots line slot)) line.first k) (one_less line.last)
    ∙ line-same line.step line.last (value_at (line_pilots line slot)) (line_pilot line slot) line.first k (between-last line.step line.last line.first k is.count)
    (λ i few. values_below_at (line_pilot line slot) (line.last + 1) i nothing few)
  where
    one_less : (n : ℕ) → n + 1 - 1 ≡ n
    one_less n = omega arith

-- a port's channel along its kept pilots, times `scale`
pub port_along : (scale : ℕ) (carrier : Carrier) (port : ℕ) (slot : SeenSlot) (k : ℕ) →
    multiple (scale / (line_of carrier port slot).step) (along (seen_line (line_of carrier port slot) slot) k) ≡ port_channel scale carrier port slot k
port_along scale carrier port slot k =
    ap (multiple (scale / (line_of carrier port slot).step)) (along_is (line_of carrier port slot) (is_line carrier port slot) slot k)

-- ---- dependence on a slot's front

module _ (a b : SeenSlot) (one : HaveOneFront a b) where
  pub front_seen : (symbol k : ℕ) → symbol < 5 → seen_at a symbol k ≡ seen_at b symbol k
  front_seen symbol k below = ap (λ (values : List Cpx). value_at values k) (one.symbols symbol below)

  -- a slot with the first slot's symbols, and this identity and number
  abbrev slot_with : ℕ → ℕ → SeenSlot
  slot_with identity number = record { symbols = a.symbols; number = number; identity = identity }

  same_line : (carrier : Carrier) (port : ℕ) → line_of carrier port a ≡ line_of carrier port b
  same_line carrier zero = ap₂ (λ (identity number : ℕ). lower_line (pattern_of carrier 0) (slot_with identity number)) one.identity one.number
  same_line carrier (suc zero) = ap₂ (λ (identity number : ℕ). lower_line (pattern_of carrier 1) (slot_with identity number)) one.identity one.number
  same_line carrier (suc (suc n)) = ap₂ (λ (identity number : ℕ). upper_line (suc (suc n)) (slot_with identity number)) one.identity one.number

  seen_same : (line : Line) → IsLine line → (i : ℕ) → line_seen line a i ≡ line_seen line b i
  seen_same line is i = front_seen (line.symbol i) (line_place line i) (is.row i)

  channel_same : (line : Line) → IsLine line → (k : ℕ) → line_channel line a k ≡ line_channel line b k
  unfolding line_channel
  channel_same line is k =
      ap (λ (pilots : ℕ → Cpx). line_by line.step line.last pilots line.first k)
      (fun_ext (λ (i : ℕ). ap (λ (z : Cpx). times z (conjugate (line.sent i))) (seen_same line is i)))

  energy_same : (line : Line) → IsLine line → line_energy line a ≡ line_energy line b
  unfolding line_energy
  energy_same line is = total_below_same (line.last + 1) _ _ (λ i _. ap (λ (z : Cpx). square z) (seen_same line is i))

  pub front_channel : (carrier : Carrier) (port k : ℕ) → line_channel (line_of carrier port a) a k ≡ line_channel (line_of carrier port b) b k
  front_channel carrier port k =
      ap (λ (line : Line). line_channel line a k) (same_line carrier port) ∙ channel_same (line_of carrier port b) (is_line carrier port b) k

  pub front_energy : (carrier : Carrier) (port : ℕ) → line_energy (line_of carrier port a) a ≡ line_energy (line_of carrier port b) b
  front_energy carrier port = ap (λ (line : Line). line_energy line a) (same_line carrier port) ∙ energy_same (line_of carrier port b) (is_line carrier port b)

  pub front_port_channel : (scale : ℕ) (carrier : Carrier) (port k : ℕ) → port_channel scale carrier port a k ≡ port_channel scale carrier port b k
  front_port_channel scale carrier port k =
      ap₂ (λ (step : ℕ) (z : Cpx). multiple (scale / step) z) (ap (λ (line : Line). line.step) (same_line carrier port)) (front_channel carrier port k)

  pub front_ports_energy : (carrier : Carrier) → ports_energy carrier a ≡ ports_energy carrier b
  unfolding ports_energy
  front_ports_energy carrier =
      total_below_same (ports_of carrier) (port_energy carrier a) (port_energy carrier b)
      (λ port _. ap₂ (λ (step e : ℕ). step / 3 * e) (ap (λ (line : Line). line.step) (same_line carrier port)) (front_energy carrier port))
