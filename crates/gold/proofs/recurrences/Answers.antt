use Rattle.std.proofs.Common.{ℕ, zero, suc, ◌+◌, ◌≡◌, ◌<◌, ◌/◌, ◌^◌, nat_eq, refl, ap, ap₂, sym, ◌∙◌, arith, false, get_or, lit<}
use Rattle.std.proofs.lemmas.List.{get_or-replicate}
use Rattle.std.specs.Int.{bit_at}
use Rattle.std.proofs.lemmas.Nat.{bit_set_by_shift, and_mask}
use Rattle.std.proofs.lemmas.Bool.{eqb-true, eq-eqb}
use Rattle.finite.specs.Bits.{xor}
use Rattle.finite.proofs.Bits.{xor-false}
use Rattle.gold.specs.Register.{sum_at, window}
use Rattle.gold.specs.Sequence.{x1_taps, x1_start, x2_taps, x2_start, x1, x2}
use Rattle.gold.specs.Gold.{gold_bit}
use Rattle.gold.proofs.Windows.{recurrence, get_or-window}
use Rattle.gold.proofs.Registers.{get_or-low_bits, x1_long, x2_long}
use Rattle.gold.proofs.recurrences.Goals as goal

-- bit i of the window at n is bit n + i of the sequence
x1-window : (n i : ℕ) → i < 31 → get_or (window x1_taps x1_start n) i false ≡ x1 (n + i)
unfolding x1
x1-window n i inside = get_or-window x1_taps x1_start i n (omega (arith, x1_long))

x2-window : (c_init n i : ℕ) → i < 31 → get_or (window x2_taps (x2_start c_init) n) i false ≡ x2 c_init (n + i)
unfolding x2
x2-window c_init n i inside = get_or-window x2_taps (x2_start c_init) i n (omega (arith, x2_long c_init))

pub returns-clause-x1_first : goal.returns-clause-x1_first
unfolding x1 window x1_start
returns-clause-x1_first c = refl

x1-start : (n : ℕ) → n < 31 → get_or x1_start n false ≡ x1 n
unfolding x1 window
x1-start n inside = get_or-window x1_taps x1_start n 0 (omega (arith, x1_long)) ∙ ap x1 (omega arith)

zeros : (n : ℕ) → 0 < n → n < 31 → get_or x1_start n false ≡ false
unfolding x1_start
zeros zero some inside = absurd (omega arith)
zeros (suc n) some inside = get_or-replicate 30 n false false (omega arith)

pub returns-clause-x1_start : goal.returns-clause-x1_start
returns-clause-x1_start c n some inside = sym (x1-start n inside) ∙ zeros n some inside

x1-sum : (n : ℕ) → sum_at x1_taps (window x1_taps x1_start n) ≡ xor (x1 (n + 3)) (x1 n)
unfolding sum_at x1_taps x1
x1-sum n = ap₂ xor (x1-window n 3 (lit< tt)) (xor-false _)

pub returns-clause-x1_next : goal.returns-clause-x1_next
unfolding x1
returns-clause-x1_next c n = recurrence x1_taps x1_start 30 n x1_long ∙ x1-sum n

x2-start : (c_init n : ℕ) → n < 31 → get_or (x2_start c_init) n false ≡ x2 c_init n
unfolding x2 window
x2-start c_init n inside = get_or-window x2_taps (x2_start c_init) n 0 (omega (arith, x2_long c_init)) ∙ ap (x2 c_init) (omega arith)

x2-bit : (c_init n : ℕ) → n < 31 → x2 c_init n ≡ nat_eq (bit_at c_init n) 1
unfolding x2_start
x2-bit c_init n inside = sym (x2-start c_init n inside) ∙ get_or-low_bits 31 c_init n inside

pub returns-clause-x2_start : goal.returns-clause-x2_start
returns-clause-x2_start c c_init n inside = (
  (λ is. (bit_set_by_shift c_init n).0 (and_mask (c_init / 2 ^ n) 1 ∙ eqb-true _ 1 (sym (x2-bit c_init n inside) ∙ is))),
  (λ set. x2-bit c_init n inside ∙ eq-eqb _ 1 (sym (and_mask (c_init / 2 ^ n) 1) ∙ (bit_set_by_shift c_init n).1 set)),
)

x2-sum : (c_init n : ℕ) → sum_at x2_taps (window x2_taps (x2_start c_init) n) ≡ xor (x2 c_init (n + 3)) (xor (x2 c_init (n + 2)) (xor (x2 c_init (n + 1)) (x2 c_init n)))
unfolding sum_at x2_taps x2
x2-sum c_init n =
    ap₂ xor (x2-window c_init n 3 (lit< tt)) (ap₂ xor (x2-window c_init n 2 (lit< tt)) (ap₂ xor (x2-window c_init n 1 (lit< tt)) (xor-false _)))

pub returns-clause-x2_next : goal.returns-clause-x2_next
unfolding x2
returns-clause-x2_next c c_init n = recurrence x2_taps (x2_start c_init) 30 n (x2_long c_init) ∙ x2-sum c_init n

pub returns-clause-sum : goal.returns-clause-sum
unfolding gold_bit
returns-clause-sum c c_init n = refl
