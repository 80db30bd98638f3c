-- The reference values, by the bits of the sequence.
use Rattle.std.proofs.Common.{subst, ap, ℕ, ◌+◌, ◌*◌, ◌<◌, ◌≡◌, Bool, false, ◌&&◌, ◌||◌, ◌%◌, nat_eq, get_or, arith, refl, inl, inr, true, All}
use Rattle.cs_num.specs.declared.Cpx.{Cpx}
use Rattle.gold.specs.Gold.{gold_bit, gold_bits}
use Rattle.gold.proofs.Bits.{get_or-gold_bits}
use Rattle.crs.specs.Qpsk.{component, IsFull, IsPoint}
use Rattle.crs.specs.declared.pattern.Pattern.{Pattern}
use Rattle.crs.specs.Reference.{port_0, port_1, has_pilots, value_by, pattern_first, pattern_c_init, pattern_reference, pattern_pair, pattern_list, reference_c_init, reference, reference_list, first_subcarrier, is_reference, is_second_reference, upper_first, is_upper_reference}
use Rattle.crs.proofs.Spacing.{lower_third, upper_third}
use Rattle.cs_num.specs.Complex.{nothing}
use Rattle.std.specs.List.{range_with_len}
use Rattle.std.proofs.lemmas.List.FromFn.{get_or-map-range_with_len}
use Rattle.std.proofs.lemmas.List.Elements.{All-map}

-- the pair that stands past the end of a list
abbrev pub no_pair : ℕ × Cpx
no_pair = (0, nothing)

-- the values take bits below 232
pub value_by-gold_bits : (pattern : Pattern) (identity slot symbol m : ℕ) → m < 12 →
    value_by (λ n. get_or (gold_bits (pattern_c_init pattern identity slot symbol) 232) n false) m ≡ pattern_reference pattern identity slot symbol m
unfolding pattern_reference
value_by-gold_bits pattern identity slot symbol m few =
    let c : ℕ = pattern_c_init pattern identity slot symbol in
    let re : get_or (gold_bits c 232) (2 * (m + 104)) false ≡ gold_bit c (2 * (m + 104)) = get_or-gold_bits c 232 (2 * (m + 104)) false (omega arith) in
    let im : get_or (gold_bits c 232) (2 * (m + 104) + 1) false ≡ gold_bit c (2 * (m + 104) + 1) = get_or-gold_bits c 232 (2 * (m + 104) + 1) false (omega arith) in
    rw (re, im)

pub component-IsFull : (bit : Bool) → IsFull (component bit)
component-IsFull false = inl refl
component-IsFull true = inr refl

-- both components have the full amplitude
pub pattern_reference-IsPoint : (pattern : Pattern) (identity slot symbol m : ℕ) → IsPoint (pattern_reference pattern identity slot symbol m)
unfolding pattern_reference
pattern_reference-IsPoint pattern identity slot symbol m = record { re = component-IsFull _; im = component-IsFull _ }

pub pattern_list-full : (pattern : Pattern) (identity slot symbol : ℕ) → All (λ pilot. IsPoint pilot.1) (pattern_list pattern identity slot symbol)
unfolding pattern_list
pattern_list-full pattern identity slot symbol =
    All-map (λ (pilot : ℕ × Cpx). IsPoint pilot.1) (pattern_pair pattern identity slot symbol) (range_with_len 0 12)
    (λ k d inside. pattern_reference-IsPoint pattern identity slot symbol _)

pub get_or-pattern_list : (pattern : Pattern) (identity slot symbol m : ℕ) (d : ℕ × Cpx) → m < 12 →
    get_or (pattern_list pattern identity slot symbol) m d ≡ pattern_pair pattern identity slot symbol m
unfolding pattern_list
get_or-pattern_list pattern identity slot symbol m d few = get_or-map-range_with_len (pattern_pair pattern identity slot symbol) 0 12 m m d few (omega arith)

-- ---- port 0 with the normal prefix

pub reference-of_port_0 : (identity slot symbol m : ℕ) → pattern_reference port_0 identity slot symbol m ≡ reference identity slot symbol m
unfolding pattern_reference reference reference_c_init
reference-of_port_0 identity slot symbol m = refl

pub reference_list-of_port_0 : (identity slot symbol : ℕ) → pattern_list port_0 identity slot symbol ≡ reference_list identity slot symbol
unfolding pattern_list reference_list pattern_reference reference reference_c_init first_subcarrier
reference_list-of_port_0 identity slot symbol = refl

pub reference-IsPoint : (identity slot symbol m : ℕ) → IsPoint (reference identity slot symbol m)
reference-IsPoint identity slot symbol m = subst IsPoint (reference-of_port_0 identity slot symbol m) (pattern_reference-IsPoint port_0 identity slot symbol m)

-- ---- the places of two ports

-- together they are every third subcarrier of both symbols
pub both_ports : (identity symbol k : ℕ) → (is_reference identity symbol k || is_second_reference identity symbol k) ≡ (has_pilots port_0 symbol && nat_eq (k % 3) (identity % 3))
unfolding first_subcarrier is_reference is_second_reference
both_ports identity symbol k = by (has_pilots port_0 symbol)
  where
    by : (has : Bool) → ((has && nat_eq (k % 6) (first_subcarrier identity symbol)) || (has && nat_eq (k % 6) (pattern_first port_1 identity symbol))) ≡ (has && nat_eq (k % 3) (identity % 3))
    by true = lower_third (nat_eq symbol 0) identity k
    by false = refl

-- ---- ports 2 and 3 of four

-- the places of ports 2 and 3 are every third subcarrier of symbol 1
pub both_upper : (identity slot symbol k : ℕ) → (is_upper_reference 2 identity slot symbol k || is_upper_reference 3 identity slot symbol k) ≡ (nat_eq symbol 1 && nat_eq (k % 3) (identity % 3))
unfolding is_upper_reference
both_upper identity slot symbol k = by (nat_eq symbol 1)
  where
    by : (has : Bool) → ((has && nat_eq (k % 6) (upper_first 2 identity slot)) || (has && nat_eq (k % 6) (upper_first 3 identity slot))) ≡ (has && nat_eq (k % 3) (identity % 3))
    by true = upper_third identity slot k
    by false = refl

-- in the next slot port 2 has the places of port 3
pub upper_turns : (identity slot symbol k : ℕ) → is_upper_reference 2 identity (slot + 1) symbol k ≡ is_upper_reference 3 identity slot symbol k
unfolding is_upper_reference
upper_turns identity slot symbol k = ap (λ first. nat_eq symbol 1 && nat_eq (k % 6) first) first
  where
    first : upper_first 2 identity (slot + 1) ≡ upper_first 3 identity slot
    first = omega arith
