-- Layouts: the lines for ports 0 and 1, and for ports 2 and 3.
use Rattle.std.proofs.Common.{◌≡◌, ℕ, ◌+◌, ◌*◌, ◌/◌, ◌%◌, ◌<◌, ◌≤◌, ◌⊎◌, inl, inr, Bool, true, false, nat_eq, arith, refl, ap, ap₂, ◌∙◌}
use Rattle.std.specs.Prelude.{if◌then◌else◌}
use Rattle.std.proofs.Math.Path.{fun_ext}
use Rattle.cs_num.specs.declared.Cpx.{Cpx}
use Rattle.crs.specs.declared.pattern.Pattern.{Pattern}
use Rattle.crs.specs.Reference.{port_0, pattern_first, upper_first, reference, pattern_reference}
use Rattle.crs.proofs.Values.{reference-of_port_0}
use Rattle.soft_bits.specs.declared.layout.Layout.{Layout}
use Rattle.soft_bits.specs.Estimate.{place_by}
use Rattle.soft_bits.specs.Layout.{IsLayout, laid_out}
use Rattle.soft_bits.specs.Lines.{Line, lower_line, upper_line}
use Rattle.soft_bits.specs.Soft.{SeenSlot, pattern_symbol, pattern_sent}

-- the line for a pattern
pub lower_is : (pattern : Pattern) (slot : SeenSlot) (first residue : ℕ) → first ≡ slot.identity % 3 → residue ≡ pattern_first pattern slot.identity 0 →
    laid_out (record { pattern = pattern; step = 3; last = 23; first = first; residue = residue; early = 0; late = pattern.later }) slot ≡ lower_line pattern slot
unfolding pattern_symbol pattern_sent
lower_is pattern slot first residue e f = rw (e, f) refl

-- a line of 12 pilots
abbrev line : ℕ → (ℕ → ℕ) → (ℕ → Cpx) → Line
line n symbol sent = record { step = 6; last = 11; first = n; symbol = symbol; sent = sent }

-- pilot i is value i in the second symbol
pub upper_is : (port first : ℕ) (slot : SeenSlot) → first ≡ upper_first port slot.identity slot.number →
    laid_out (record { pattern = port_0; step = 6; last = 11; first = first; residue = first; early = 1; late = 1 }) slot ≡ upper_line port slot
upper_is port first slot e =
    let few : first < 6 = omega (arith, e) in
    ap₂ (λ (symbol : ℕ → ℕ) (sent : ℕ → Cpx). line first symbol sent) (fun_ext (λ (i : ℕ). one (nat_eq (place_by 6 first i % 6) first)))
    (fun_ext (λ (i : ℕ). ap₂ (pattern_reference port_0 slot.identity slot.number) (one (nat_eq (place_by 6 first i % 6) first)) (sixth few i) ∙ reference-of_port_0 slot.identity slot.number 1 i))
    ∙ ap (λ (n : ℕ). line n (λ m. 1) (reference slot.identity slot.number 1)) e
  where
    twice : Bool → ℕ
    twice b = if b then 1 else 1

    one : (b : Bool) → twice b ≡ 1
    one true = refl
    one false = refl

    sixth : first < 6 → (i : ℕ) → place_by 6 first i / 6 ≡ i
    sixth few i = omega (arith, few)

-- the pilots fill the subcarriers
pub layout-whole : (layout : Layout) → IsLayout layout → (layout.step * (layout.last + 1) ≡ 72) × (layout.step ≤ 6) × (layout.last ≤ 23)
layout-whole layout is = by layout.step layout.last is.count
  where
    by : (step last : ℕ) → ((step ≡ 3) × (last ≡ 23)) ⊎ ((step ≡ 6) × (last ≡ 11)) → (step * (last + 1) ≡ 72) × (step ≤ 6) × (last ≤ 23)
    by step last (inl (s, l)) = rw (s, l) (refl, omega arith, omega arith)
    by step last (inr (s, l)) = rw (s, l) (refl, omega arith, omega arith)
