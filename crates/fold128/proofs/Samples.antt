-- Bounds on a symbol's sums.
use Rattle.std.proofs.Common.{◌≡◌, ℕ, ◌*◌, ◌<◌, arith, refl, ap}
use Rattle.cs_num.specs.declared.Cpx.{Cpx}
use Rattle.cs_num.specs.Complex.{IsWithin, times}
use Rattle.cs_num.specs.Rounding.{rounded}
use Rattle.cs_num.specs.Sums.{complex_sum_below}
use Rattle.fold128.specs.Tables.{w_at}
use Rattle.fold128.specs.Symbol.{useful_term, useful_at, frequency}
use Rattle.cs_num.proofs.Sums.{complex_sum_below-within, complex_sum_below_same}
use Rattle.cs_num.proofs.Complex.{times-within}
use Rattle.cs_num.proofs.Rounding.{rounds_within}
use Rattle.fold128.proofs.Entries.{w_small}

pub useful_is : (grid : ℕ → Cpx) (n : ℕ) → useful_at grid n ≡ rounded (complex_sum_below 72 (useful_term grid n)) 17
unfolding useful_at
useful_is grid n = refl

-- the bound on a useful part's samples
pub useful-within : (grid : ℕ → Cpx) (n : ℕ) → ((k : ℕ) → k < 72 → IsWithin 127 (grid k)) → IsWithin 2287 (useful_at grid n)
unfolding useful_at
useful-within grid n small =
    let s = complex_sum_below-within 72 4161536 (useful_term grid n)
    (λ k l. times-within (grid k) (w_at (frequency k * n)) 127 16384 2080768 (small k l) (w_small (frequency k * n)) (omega arith)) in
    record {
      re = rounds_within (complex_sum_below 72 (useful_term grid n)).re 65536 2287 (omega arith) (omega (arith, s.re));
      im = rounds_within (complex_sum_below 72 (useful_term grid n)).im 65536 2287 (omega arith) (omega (arith, s.im));
    }

-- equal subcarrier values give equal samples
pub useful_same : (f g : ℕ → Cpx) (n : ℕ) → ((k : ℕ) → k < 72 → f k ≡ g k) → useful_at f n ≡ useful_at g n
unfolding useful_at
useful_same f g n h =
    ap (λ s. rounded s 17) (complex_sum_below_same 72 (useful_term f n) (useful_term g n) (λ k l. ap (λ z. times z (w_at (frequency k * n))) (h k l)))
