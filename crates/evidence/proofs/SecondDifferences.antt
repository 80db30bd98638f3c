-- Second differences of pilots.
use Rattle.std.proofs.Common.{◌≡◌, ℕ, ◌+◌, ◌-◌, ◌*◌, ◌^◌, ◌<◌, ◌≤◌, List, length, ap, ap₂, arith, ◌∙◌}
use Rattle.finite.specs.Sums.{total_below}
use Rattle.finite.specs.Lists.{values_below}
use Rattle.finite.proofs.Lists.{values_below_at, values_below-length}
use Rattle.finite.proofs.Sums.{total_below_same}
use Rattle.cs_num.specs.declared.Cpx.{Cpx}
use Rattle.cs_num.specs.Complex.{IsWithin, plus, minus, multiple, square, nothing, value_at}
use Rattle.cs_num.proofs.Complex.{plus-within, minus-within, multiple-within, square-within}
use Rattle.lte_types.specs.declared.carrier.Carrier.TheVariants.{OnePort}
use Rattle.soft_bits.specs.Soft.{SeenSlot, pattern_seen, pattern_pilot, pilot}
use Rattle.soft_bits.specs.Lines.{line_of}
use Rattle.evidence.specs.Evidence.{difference_power, differences, line_differences, differences_by}

-- equal pilots have equal second differences
pub differences_same : (count stride : ℕ) (f g : ℕ → Cpx) → ((i : ℕ) → i < count → f i ≡ g i) → differences count stride f ≡ differences count stride g
unfolding differences
differences_same count stride f g h = total_below_same (count - 2 * stride) (difference_power stride f) (difference_power stride g)
    (λ i l. ap₂ (λ (a b : Cpx). square (minus a b))
    (ap₂ plus (h i (omega (arith, l))) (h (i + 2 * stride) (omega (arith, l))))
    (ap (multiple 2) (h (i + stride) (omega (arith, l)))))

-- bounds for the sum of two small pilots, and for a second difference
pub outer_small : (a c : Cpx) → IsWithin (180 * 2 ^ 25) a → IsWithin (180 * 2 ^ 25) c → IsWithin (360 * 2 ^ 25) (plus a c)
outer_small a c p r = plus-within a c (180 * 2 ^ 25) (180 * 2 ^ 25) (360 * 2 ^ 25) p r (omega arith)

pub difference_small : (a b c : Cpx) → IsWithin (180 * 2 ^ 25) a → IsWithin (180 * 2 ^ 25) b → IsWithin (180 * 2 ^ 25) c → square (minus (plus a c) (multiple 2 b)) ≤ 2 ^ 70
difference_small a b c p q r =
    let within = minus-within (plus a c) (multiple 2 b) (360 * 2 ^ 25) (360 * 2 ^ 25) (720 * 2 ^ 25) (outer_small a c p r) (multiple-within 2 b (180 * 2 ^ 25) q) (omega arith) in
    let small = square-within (minus (plus a c) (multiple 2 b)) (720 * 2 ^ 25) within in
    omega (arith, small)

-- pilots in a list have the second differences of their line
pub differences_of_list : (count stride : ℕ) (pilots : List Cpx) (f : ℕ → Cpx) → pilots ≡ values_below count f → differences (length pilots) stride (value_at pilots) ≡ differences count stride f
differences_of_list count stride pilots f e =
    ap (λ n. differences n stride (value_at pilots)) (ap length e ∙ values_below-length count f)
    ∙ differences_same count stride (value_at pilots) f (λ i l. ap (λ list. value_at list i) e ∙ values_below_at f count i nothing l)

-- with one port, the second differences are its pilots'
pub differences_of_one : (slot : SeenSlot) → differences_by OnePort slot ≡ differences 24 2 (pilot slot)
unfolding total_below pattern_pilot pattern_seen
differences_of_one slot = sums (line_differences (line_of OnePort 0 slot) slot)
  where
    sums : (a : ℕ) → 0 + a ≡ a
    sums a = omega arith
