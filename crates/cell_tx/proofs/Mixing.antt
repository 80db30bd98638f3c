-- A source's ports in one frame, and sums built port by port.
use Rattle.std.proofs.Common.{◌≡◌, ℕ, zero, suc, ◌+◌, ◌-◌, ◌*◌, ◌%◌, ◌<◌, ◌≤◌, Bool, true, false, nat_eq, List, slice_index_or, arith, refl, sym, subst, ap, ◌∙◌}
use Rattle.std.specs.Prelude.{if◌then◌else◌}
use Rattle.std.proofs.lemmas.Nat.{mul-le}
use Rattle.finite.specs.Sums.{sum_below, total_below}
use Rattle.finite.proofs.Sums.{total_below_split, total_below-term}
use Rattle.std.proofs.Math.Path.{fun_ext}
use Rattle.cs_num.specs.declared.Cpx.{Cpx}
use Rattle.cs_num.specs.declared.Sample.{Sample}
use Rattle.cs_num.specs.Complex.{IsWithin, nothing, silence, square, plus, times, value_at, value_of, sample_of}
use Rattle.cs_num.proofs.Complex.{plus-nothing, plus-associates, within_more}
use Rattle.cs_num.specs.Sums.{complex_sum_below}
use Rattle.cs_num.proofs.Sums.{complex_sum_below_none, complex_sum_below_more}
use Rattle.lte_types.specs.declared.carrier.Carrier.{Carrier}
use Rattle.lte_types.specs.declared.carrier.Carrier.TheVariants.{OnePort, TwoPorts, LongPrefix, FourPorts}
use Rattle.lte_types.specs.Carrier.{prefix_of, ports_of}
use Rattle.lte_types.specs.Numerology.{frame_length}
use Rattle.lte_types.specs.Timing.{number_of}
use Rattle.cell_grid.specs.declared.antenna.Port.{Port}
use Rattle.cell_tx.specs.declared.source.Ports.{Ports}
use Rattle.cell_tx.specs.declared.source.Ports.TheVariants.{Alone, All}
use Rattle.cell_tx.specs.declared.source.Source.{Source}
use Rattle.cell_tx.specs.declared.frame_symbols.Symbols.{Symbols}
use Rattle.cell_grid.specs.Ports.{port_by, port_prefix}
use Rattle.cell_grid.specs.Load.{sent_element}
use Rattle.cell_plan.specs.Gains.{AreGainsOf}
use Rattle.cell_tx.specs.Emission.{mixed}
use Rattle.cell_tx.specs.Mixing.{carrier_by, mixed_by, AreGainsBy}
use Rattle.cell_tx.specs.Emitting.{made, sent_in_frame, framed, is_made_anew, AreOwn, AreChanged, added, FitSamples, AreSilent}
use Rattle.cell_tx.proofs.Bounds.{amplified, frame-square}
use Rattle.cell_grid.proofs.Bounds.{sent_element-square}
use Rattle.cell_tx.proofs.Received.{IsSumOf, product_is, sum_is, sum_fits}
use Rattle.cell_tx.proofs.Symbols.{prefix_sent_is}
use Rattle.cell_tx.proofs.Changes.{changed_there, changed_alike, changed_twice}

-- ---- a source's gains

-- the power of the first ports: the sum of their squared gains
abbrev pub power : List Cpx → ℕ → ℕ
power gains n = total_below n (λ number. square (value_at gains number))

-- the power of all ports leaves headroom for their sum
all_most : (carrier : Carrier) (gains : List Cpx) → AreGainsOf carrier gains → ports_of carrier * power gains (ports_of carrier) ≤ 784
unfolding total_below
all_most OnePort gains g = omega (arith, g.most)
all_most TwoPorts gains g = omega (arith, g.most)
all_most LongPrefix gains g = omega (arith, g.most)
all_most FourPorts gains g = omega (arith, g.most)

pub power_most : (carrier : Carrier) (gains : List Cpx) (n : ℕ) → n ≤ ports_of carrier → AreGainsOf carrier gains → n * power gains n ≤ 784
power_most carrier gains n few g =
    let all : ℕ = power gains (ports_of carrier) in
    let rest : ports_of carrier ≡ n + (ports_of carrier - n) = omega (arith, few) in
    let split = ap (λ (m : ℕ). power gains m) rest ∙ total_below_split n (ports_of carrier - n) (λ number. square (value_at gains number)) in
    let grows : power gains n ≤ all = omega (arith, split) in
    let most = all_most carrier gains g in
    let whole : n * power gains n ≤ ports_of carrier * all = mul-le n (power gains n) (ports_of carrier) all few grows in
    omega (arith, whole, most)

-- each port's gain has power at most 784
pub gain_most : (carrier : Carrier) (gains : List Cpx) (number : ℕ) → number < ports_of carrier → AreGainsOf carrier gains → square (value_at gains number) ≤ 784
gain_most carrier gains number inside g =
    let one = total_below-term (number + 1) number (λ n. square (value_at gains n)) (omega arith) in
    let most = power_most carrier gains (number + 1) (omega (arith, inside)) g in
    let times_one : 1 * power gains (number + 1) ≤ (number + 1) * power gains (number + 1) = mul-le 1 (power gains (number + 1)) (number + 1) (power gains (number + 1)) (omega arith) (omega arith) in
    omega (arith, one, most, times_one)

-- the first port's gain has power at most 784
pub first_most : (ports : Ports) (gains : List Cpx) → AreGainsBy ports gains → square (value_at gains 0) ≤ 784
first_most (Alone port) gains g = g
first_most (All carrier) gains g = gain_most carrier gains 0 (some carrier) g
  where
    some : (carrier : Carrier) → 0 < ports_of carrier
    some OnePort = omega arith
    some TwoPorts = omega arith
    some LongPrefix = omega arith
    some FourPorts = omega arith

-- ---- a source's sample as a sample of a frame

pub made_is : (s : Source) (i : ℕ) → made s i ≡ framed s (number_of s.timing.sfn (i + s.timing.offset)) ((i + s.timing.offset) % 19200)
made_is s i =
    ap (λ (f : Port → Cpx). mixed_by s.ports f s.gains)
    (fun_ext (λ port. prefix_sent_is (port_prefix port) (sent_element s.load port s.cell.now) s.timing.sfn (i + s.timing.offset)))

-- ---- ports that transmit equal values

pub mixed_same : (ports : Ports) (gains : List Cpx) (f g : Port → Cpx) → ((port : Port) → port.carrier ≡ carrier_by ports → f port ≡ g port) → mixed_by ports f gains ≡ mixed_by ports g gains
mixed_same (Alone port) gains f g same = ap (times (value_at gains 0)) (same port refl)
mixed_same (All carrier) gains f g same =
    ap (λ (part : ℕ → Cpx). if nat_eq (ports_of carrier) 1 then part 0 else (if nat_eq (ports_of carrier) 2 then plus (part 0) (part 1) else plus (plus (part 0) (part 1)) (plus (part 2) (part 3))))
    (fun_ext (λ p. ap (times (value_at gains p)) (same (port_by carrier p) refl)))

-- samples that are not recomputed are equal in every frame
pub framed_same : (s : Source) (symbols : Symbols) (a b i : ℕ) → AreOwn (carrier_by s.ports) s.load symbols → i < frame_length → is_made_anew (prefix_of (carrier_by s.ports)) symbols i ≡ false →
    framed s a i ≡ framed s b i
framed_same s symbols a b i own inside kept = mixed_same s.ports s.gains _ _ (λ port is. own port s.cell.now a b i is inside kept)

-- ---- a port's contribution

abbrev pub heard : Source → ℕ → Port → ℕ → Cpx
heard s n port i = sent_in_frame s.load port s.cell.now n i

abbrev pub part : Source → ℕ → Port → ℕ → ℕ → Cpx
part s n port number i = times (value_at s.gains number) (heard s n port i)

heard-square : (s : Source) (n : ℕ) (port : Port) (i : ℕ) → square (heard s n port i) ≤ 1153 * 1153
heard-square s n port i = frame-square (port_prefix port) (sent_element s.load port s.cell.now) (sent_element-square s.load port s.cell.now) n i

-- ---- partial sums

-- samples have these values where the test holds
abbrev pub HaveThere : (ℕ → Bool) → (ℕ → Cpx) → List Sample → Type 0
HaveThere p z samples = (i : ℕ) → i < 19200 → p i ≡ true → slice_index_or samples i silence ≡ sample_of (z i)

pub room_over : (p : ℕ → Bool) (z : ℕ → Cpx) (gain : Cpx) (values : ℕ → Cpx) (samples : List Sample)
    → HaveThere p z samples → ((i : ℕ) → IsWithin 32284 (plus (z i) (times gain (values i)))) → FitSamples p gain values samples
room_over p z gain values samples there small i inside e =
    subst (λ (s : Sample). IsWithin 32767 (plus (value_of s) (times gain (values i)))) (sym (there i inside e))
    (within_more (plus (z i) (times gain (values i))) 32284 32767 (small i) (omega arith))

pub sum_there : (p : ℕ → Bool) (z : ℕ → Cpx) (gain : Cpx) (values : ℕ → Cpx) (old new : List Sample)
    → HaveThere p z old → AreChanged p (added gain values) old new → HaveThere p (λ i. plus (z i) (times gain (values i))) new
sum_there p z gain values old new there is i inside e =
    changed_there p (added gain values) old new is i inside e ∙ ap (λ (s : Sample). sample_of (plus (value_of s) (times gain (values i)))) (there i inside e)

-- ---- one port

module _ (s : Source) (n : ℕ) (p : ℕ → Bool) where
  -- over silence there is headroom for one port
  pub room_alone : (port : Port) (samples : List Sample) → AreSilent p samples → FitSamples p (value_at s.gains 0) (heard s n port) samples
  room_alone port samples silent =
      room_over p (λ i. nothing) (value_at s.gains 0) (heard s n port) samples silent
      (λ i. subst (IsWithin 32284) (sym (plus-nothing (part s n port 0 i))) (amplified (value_at s.gains 0) (heard s n port i) (first_most s.ports s.gains s.gains_fit) (heard-square s n port i)).small)

  pub alone_made : (port : Port) (old new : List Sample) → AreSilent p old → AreChanged p (added (value_at s.gains 0) (heard s n port)) old new
      → AreChanged p (λ i before. sample_of (part s n port 0 i)) old new
  alone_made port old new silent is =
      changed_alike p (added (value_at s.gains 0) (heard s n port)) (λ i before. sample_of (part s n port 0 i)) old new
      (λ i inside t. ap (added (value_at s.gains 0) (heard s n port) i) (silent i inside t) ∙ ap sample_of (plus-nothing (part s n port 0 i)))
      is

-- ---- all ports in order

-- the sum over the first ports
abbrev pub sum_of : Source → ℕ → Carrier → ℕ → ℕ → Cpx
sum_of s n carrier count i = complex_sum_below count (λ number. part s n (port_by carrier number) number i)

sum_small : (s : Source) (n : ℕ) (carrier : Carrier) (count i : ℕ) → IsSumOf count (power s.gains count) (sum_of s n carrier count i)
unfolding sum_below total_below
sum_small s n carrier zero i = record { most = omega arith }
sum_small s n carrier (suc count) i =
    let one : count + 1 ≡ suc count = omega arith in
    let last = product_is (value_at s.gains count) _ (heard-square s n (port_by carrier count) i) in
    subst (λ (m : ℕ). IsSumOf m (power s.gains (suc count)) (sum_of s n carrier (suc count) i)) one (sum_is _ _ count 1 _ _ (sum_small s n carrier count i) last)

-- the sum over all ports is the received value
sum_over : (s : Source) (n : ℕ) (carrier : Carrier) (i : ℕ) → sum_of s n carrier (ports_of carrier) i ≡ mixed carrier (λ port. heard s n port i) s.gains
unfolding sum_below
sum_over s n carrier i = by carrier
  where
    share : Carrier → ℕ → Cpx
    share carrier number = part s n (port_by carrier number) number i

    by : (carrier : Carrier) → sum_of s n carrier (ports_of carrier) i ≡ mixed carrier (λ port. heard s n port i) s.gains
    by OnePort = plus-nothing (share OnePort 0)
    by TwoPorts = ap (λ (z : Cpx). plus z (share TwoPorts 1)) (plus-nothing (share TwoPorts 0))
    by LongPrefix = plus-nothing (share LongPrefix 0)
    by FourPorts =
        ap (λ (z : Cpx). plus (plus (plus z (share FourPorts 1)) (share FourPorts 2)) (share FourPorts 3)) (plus-nothing (share FourPorts 0))
        ∙ plus-associates (plus (share FourPorts 0) (share FourPorts 1)) (share FourPorts 2) (share FourPorts 3)

module _ (s : Source) (n : ℕ) (p : ℕ → Bool) (carrier : Carrier) (old : List Sample) where
  -- samples hold the sum over the first ports where they were silent
  abbrev pub HaveSum : ℕ → List Sample → Type 0
  HaveSum count new = AreChanged p (λ i before. sample_of (sum_of s n carrier count i)) old new

  pub none_added : AreSilent p old → HaveSum 0 old
  none_added silent i inside = by (p i) refl
    where
      by : (b : Bool) → p i ≡ b → slice_index_or old i silence ≡ (if b then sample_of (sum_of s n carrier 0 i) else slice_index_or old i silence)
      by true e = silent i inside e ∙ ap sample_of (sym (complex_sum_below_none (λ number. part s n (port_by carrier number) number i)))
      by false e = refl

  module _ (count : ℕ) (mid : List Sample) (have : HaveSum count mid) where
    next_is : (i : ℕ) → sum_of s n carrier (count + 1) i ≡ plus (sum_of s n carrier count i) (part s n (port_by carrier count) count i)
    next_is i = complex_sum_below_more count (λ number. part s n (port_by carrier number) number i)

    sum_fits_next : s.ports ≡ All carrier → count < ports_of carrier → (i : ℕ) → IsWithin 32284 (plus (sum_of s n carrier count i) (part s n (port_by carrier count) count i))
    sum_fits_next ports few i =
        let gains = subst (λ (x : Ports). AreGainsBy x s.gains) ports s.gains_fit in
        subst (IsWithin 32284) (next_is i) (sum_fits _ (count + 1) _ (power_most carrier s.gains (count + 1) (omega (arith, few)) gains) (sum_small s n carrier (count + 1) i))

    -- there is headroom for the next port
    pub room_for_next : s.ports ≡ All carrier → count < ports_of carrier → FitSamples p (value_at s.gains count) (heard s n (port_by carrier count)) mid
    room_for_next ports few =
        room_over p (sum_of s n carrier count) (value_at s.gains count) (heard s n (port_by carrier count)) mid
        (λ i inside e. changed_there p (λ i before. sample_of (sum_of s n carrier count i)) old mid have i inside e) (sum_fits_next ports few)

    pub next_added : (new : List Sample) → AreChanged p (added (value_at s.gains count) (heard s n (port_by carrier count))) mid new → HaveSum (count + 1) new
    next_added new is =
        changed_alike p (λ i x. added (value_at s.gains count) (heard s n (port_by carrier count)) i (sample_of (sum_of s n carrier count i)))
        (λ i before. sample_of (sum_of s n carrier (count + 1) i)) old new (λ i inside e. ap sample_of (sym (next_is i)))
        (changed_twice p (λ i before. sample_of (sum_of s n carrier count i)) (added (value_at s.gains count) (heard s n (port_by carrier count))) old mid new have is)

  pub all_added : (new : List Sample) → HaveSum (ports_of carrier) new → AreChanged p (λ i before. sample_of (mixed carrier (λ port. heard s n port i) s.gains)) old new
  all_added new have =
      changed_alike p (λ i before. sample_of (sum_of s n carrier (ports_of carrier) i)) (λ i before. sample_of (mixed carrier (λ port. heard s n port i) s.gains)) old new
      (λ i inside e. ap sample_of (sum_over s n carrier i)) have
