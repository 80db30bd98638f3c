-- Bounds on resource elements and samples.
use Rattle.std.proofs.Common.{◌≡◌, ℕ, ◌+◌, ◌-◌, ◌*◌, ◌/◌, ◌%◌, ◌<◌, ◌≤◌, ◌^◌, inl, inr, Bool, true, false, nat_eq, nat_lt, Option, Some, None, arith, refl, ap, ◌∙◌, ℤ, pos, neg_ℤ, ◌+ℤ◌, ◌*ℤ◌}
use Rattle.std.specs.Prelude.{if◌then◌else◌, nat_abs}
use Rattle.std.proofs.lemmas.Bool.{cases_lt}
use Rattle.std.proofs.lemmas.Int.{ints, unsigned_abs-mul}
use Rattle.std.proofs.lemmas.Nat.{mul-le}
use Rattle.cs_num.specs.declared.Cpx.{Cpx}
use Rattle.cs_num.specs.Complex.{IsWithin, nothing, plus, times, square, largest_part, minus, multiple}
use Rattle.cs_num.specs.Rounding.{rounded}
use Rattle.cs_num.specs.Sums.{complex_sum_below}
use Rattle.norms.specs.Magnitudes.{IsBounded}
use Rattle.norms.proofs.Algebra.{plus-minus}
use Rattle.cs_num.proofs.Complex.{square-within}
use Rattle.cs_num.specs.Gain.{IsGain}
use Rattle.norms.proofs.Squares.{re-le, im-le, square-multiple, square-times}
use Rattle.norms.proofs.Rounding.{rounded_near}
use Rattle.norms.proofs.Bounded.{bounded-plus, bounded-times, bounded-sum, sized_plain}
use Rattle.fold128.specs.Tables.{w_at}
use Rattle.fold128.specs.Symbol.{frequency, useful_term, useful_at}
use Rattle.fold128.proofs.EntrySizes.{w-square, z-square}
use Rattle.lte_types.specs.declared.frame.Half.{Half}
use Rattle.crs.specs.Qpsk.{IsFull, IsPoint}
use Rattle.crs.proofs.Values.{pattern_reference-IsPoint, component-IsFull}
use Rattle.gold.specs.Gold.{gold_bit}
use Rattle.sync_seq.specs.Primary.{root_of, turns, pss_at}
use Rattle.sync_seq.specs.Secondary.{sss_at}
use Rattle.sync_seq.proofs.PrimaryValues.{pss_is, pss-within}
use Rattle.sync_seq.proofs.SecondaryValues.{sss-size}
use Rattle.cell_grid.specs.declared.antenna.Port.{Port}
use Rattle.lte_types.specs.Carrier.{ports_of}
use Rattle.cell_plan.specs.declared.cell.CellPlan.{CellPlan}
use Rattle.cell_grid.specs.Ports.{port_prefix, port_symbols, port_slot, first_pattern, has_control, crossed_point, paired_point, sent_point, sent_signal, is_own_reference, is_other_reference, port_reference}
use Rattle.cell_grid.specs.Load.{is_loaded, load_c_init, load_point, loaded_element, sent_element}
use Rattle.cell_grid.specs.Block.{port_bit, port_point, scrambled_bit}
use Rattle.cell_grid.specs.Grid.{is_primary, is_secondary, has_broadcast, is_indicator, is_control, is_shared, port_channel_value, port_element}
use Rattle.cell_grid.specs.Points.{scrambled, point_of}
use Rattle.cell_grid.specs.Control.{indicator_point, control_word, control_point}
use Rattle.cell_grid.specs.Shared.{shared_bit, shared_point}
use Rattle.grid_map.specs.Scrambling.{pcfich_c_init, pdcch_c_init, pdsch_c_init, indicator_bit}
use Rattle.dci.specs.Fields.{system_information_rnti}
use Rattle.lte_types.specs.declared.numerology.Prefix.{Prefix}
use Rattle.lte_types.specs.Numerology.{normal, half_of, symbols_of_slot, useful_start, symbol_of}
use Rattle.lte_types.specs.Timing.{number_of}
use Rattle.cell_grid.specs.Grid.{Elements}

-- ---- resource elements

pub pick : (P : Cpx → Type 0) (c : Bool) (a b : Cpx) → P a → P b → P (if c then a else b)
pick P true a b p q = p
pick P false a b p q = q

pub broadcast_full : (port : Port) (plan : CellPlan) (sfn i : ℕ) → IsPoint (port_point port plan sfn i)
unfolding port_point
broadcast_full port plan sfn i = record { re = component-IsFull (port_bit port plan sfn (2 * i)); im = component-IsFull (port_bit port plan sfn (2 * i + 1)) }

pub bits_full : (bits : ℕ → Bool) (i : ℕ) → IsPoint (point_of bits i)
bits_full bits i = record { re = component-IsFull (bits (2 * i)); im = component-IsFull (bits (2 * i + 1)) }

pub indicator_full : (plan : CellPlan) (subframe i : ℕ) → IsPoint (indicator_point plan subframe i)
unfolding indicator_point
indicator_full plan subframe i = bits_full (scrambled (pcfich_c_init plan.identity (2 * subframe)) (indicator_bit plan.cfi)) i

pub control_full : (plan : CellPlan) (sfn i : ℕ) → IsPoint (control_point plan sfn i)
unfolding control_point
control_full plan sfn i = bits_full (scrambled_bit (pdcch_c_init plan.identity 10) (control_word plan sfn)) i

pub shared_full : (plan : CellPlan) (sfn i : ℕ) → IsPoint (shared_point plan sfn i)
unfolding shared_point
shared_full plan sfn i = bits_full (scrambled (pdsch_c_init plan.identity 10 system_information_rnti) (shared_bit plan sfn)) i

-- negation keeps full magnitude
negative_full : (z : ℤ) → IsFull z → IsFull (neg_ℤ z)
negative_full z (inl e) = inr (ap neg_ℤ e)
negative_full z (inr e) = inl (ap neg_ℤ e)

crossed_full : (f : ℕ → Cpx) → ((i : ℕ) → IsPoint (f i)) → (i : ℕ) → IsPoint (crossed_point f i)
crossed_full f full i =
    let next = full (i + 1) in
    let before = full (i - 1) in
    pick IsPoint (nat_eq (i % 2) 0) _ _
    (record { re = negative_full (f (i + 1)).re next.re; im = negative_full _ (negative_full (f (i + 1)).im next.im) })
    (record { re = before.re; im = negative_full (f (i - 1)).im before.im })

-- what holds for 0 and all QPSK symbols also holds for the values that a port transmits
sent_points_all : (P : Cpx → Type 0) → ((z : Cpx) → IsPoint z → P z) → P nothing → (port : Port) (f : ℕ → Cpx) → ((i : ℕ) → IsPoint (f i)) → (i : ℕ) → P (sent_point port f i)
sent_points_all P full none port f points i =
    pick P (nat_eq (ports_of port.carrier) 1) _ _ (full _ (points i))
    (pick P (nat_eq (ports_of port.carrier) 2) _ _ (paired 1) (pick P (nat_eq (i / 2 % 2) (port.number % 2)) _ _ (paired 2) none))
  where
    paired : (half : ℕ) → P (paired_point half port.number f i)
    paired half = pick P (nat_lt port.number half) _ _ (full _ (points i)) (full _ (crossed_full f points i))

-- reference signals are QPSK symbols
pub reference_full : (port : Port) (identity slot symbol k : ℕ) → IsPoint (port_reference port identity slot symbol k)
reference_full port identity slot symbol k = pattern_reference-IsPoint (first_pattern port) identity slot symbol (k / 6)

channel_all : (P : Cpx → Type 0) → ((z : Cpx) → IsPoint z → P z) → P nothing → (port : Port) (plan : CellPlan) (sfn subframe symbol k : ℕ) → P (port_channel_value port plan sfn subframe symbol k)
unfolding port_channel_value
channel_all P full none port plan sfn subframe symbol k =
    pick P (has_broadcast port plan.identity subframe symbol k) _ _ (sent_points_all P full none port (port_point port plan sfn) (broadcast_full port plan sfn) _)
    (pick P (has_control port) _ _
    (pick P (is_indicator plan symbol k) _ _ (sent_points_all P full none port (indicator_point plan subframe) (indicator_full plan subframe) _)
    (pick P (is_control plan sfn subframe symbol k) _ _ (sent_points_all P full none port (control_point plan sfn) (control_full plan sfn) _)
    (pick P (is_shared port plan sfn subframe symbol k) _ _ (sent_points_all P full none port (shared_point plan sfn) (shared_full plan sfn) _) none))) none)

signal_all : (P : Cpx → Type 0) (port : Port) (z : Cpx) → P z → P nothing → P (sent_signal port z)
signal_all P port z here none = pick P (nat_eq port.number 0) _ _ here none

-- a predicate that holds for each kind of value holds for every resource element
element_all : (P : Cpx → Type 0) → ((z : Cpx) → IsPoint z → P z) → ((n2 n : ℕ) → P (pss_at n2 n))
    → ((n1 n2 : ℕ) (half : Half) (n : ℕ) → P (record { re = pos 127 *ℤ sss_at n1 n2 half n; im = pos 0 })) → P nothing
    → (port : Port) (plan : CellPlan) (sfn subframe symbol k : ℕ) → P (port_element port plan sfn subframe symbol k)
unfolding port_element
element_all P full primary secondary none port plan sfn subframe symbol k =
    pick P (is_own_reference port plan.identity (port_slot port subframe symbol) (symbol % port_symbols port) k) _ _
    (full _ (reference_full port plan.identity (port_slot port subframe symbol) (symbol % port_symbols port) k))
    (pick P (is_other_reference port plan.identity (port_slot port subframe symbol) (symbol % port_symbols port) k) _ _ none
    (pick P (is_primary port subframe symbol k) _ _ (signal_all P port _ (primary (plan.identity % 3) (k - 5)) none)
    (pick P (is_secondary port subframe symbol k) _ _ (signal_all P port _ (secondary (plan.identity / 3) (plan.identity % 3) (half_of subframe) (k - 5)) none)
    (channel_all P full none port plan sfn subframe symbol k))))

pub full_size : (z : ℤ) → IsFull z → nat_abs z ≡ 90
full_size z (inl e) = rw e refl
full_size z (inr e) = rw e refl

pub secondary_size : (n1 n2 : ℕ) (half : Half) (n : ℕ) → nat_abs (pos 127 *ℤ sss_at n1 n2 half n) ≡ 127
secondary_size n1 n2 half n = unsigned_abs-mul (pos 127) (sss_at n1 n2 half n) ∙ rw (sss-size n1 n2 half n) refl

pub point-within : (z : Cpx) → IsPoint z → IsWithin 127 z
point-within z full = record { re = omega (arith, full_size z.re full.re); im = omega (arith, full_size z.im full.im) }

pub point-square : (z : Cpx) → IsPoint z → square z ≤ 128 * 128
point-square z full = rw (full_size z.re full.re, full_size z.im full.im) (omega arith)

pub element-within : (port : Port) (plan : CellPlan) (sfn subframe symbol k : ℕ) → IsWithin 127 (port_element port plan sfn subframe symbol k)
element-within =
    element_all (IsWithin 127)
    point-within
    pss-within
    (λ n1 n2 half n. record { re = omega (arith, secondary_size n1 n2 half n); im = omega arith })
    (record { re = omega arith; im = omega arith })

pub primary-square : (n2 n : ℕ) → square (pss_at n2 n) ≤ 128 * 128
primary-square n2 n = rw (pss_is n2 n) (z-square ((63 - root_of n2) * turns n))

pub element-square : (port : Port) (plan : CellPlan) (sfn subframe symbol k : ℕ) → square (port_element port plan sfn subframe symbol k) ≤ 128 * 128
element-square =
    element_all (λ z. square z ≤ 128 * 128)
    point-square
    primary-square
    (λ n1 n2 half n. rw (secondary_size n1 n2 half n) (omega arith))
    (omega arith)

-- load consists of QPSK symbols
pub load_full : (load : ℕ) (port : Port) (sfn subframe symbol k : ℕ) → IsPoint (load_point load port sfn subframe symbol k)
unfolding load_point
load_full load port sfn subframe symbol k = bits_full (gold_bit (load_c_init load port sfn subframe)) (72 * symbol + k)

module _ (P : Cpx → Type 0) (full : (z : Cpx) → IsPoint z → P z) (port : Port) (plan : CellPlan) (each : (sfn subframe symbol k : ℕ) → P (port_element port plan sfn subframe symbol k)) where
  sent_all : (load : Option ℕ) (sfn subframe symbol k : ℕ) → P (sent_element load port plan sfn subframe symbol k)
  unfolding loaded_element
  sent_all None sfn subframe symbol k = each sfn subframe symbol k
  sent_all (Some load) sfn subframe symbol k = pick P (is_loaded port plan sfn subframe symbol k) _ _ (full _ (load_full load port sfn subframe symbol k)) (each sfn subframe symbol k)

pub sent_element-within : (load : Option ℕ) (port : Port) (plan : CellPlan) (sfn subframe symbol k : ℕ) → IsWithin 127 (sent_element load port plan sfn subframe symbol k)
sent_element-within load port plan = sent_all (IsWithin 127) point-within port plan (element-within port plan) load

pub sent_element-square : (load : Option ℕ) (port : Port) (plan : CellPlan) (sfn subframe symbol k : ℕ) → square (sent_element load port plan sfn subframe symbol k) ≤ 128 * 128
sent_element-square load port plan = sent_all (λ z. square z ≤ 128 * 128) point-square port plan (element-square port plan) load
