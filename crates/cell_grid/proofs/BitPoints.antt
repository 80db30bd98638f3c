-- QPSK symbols for a list of bits.
use Rattle.std.proofs.Common.{◌≡◌, ℕ, ◌+◌, ◌*◌, ◌<◌, Bool, false, List, get_or, refl, ap, arith, ◌∙◌}
use Rattle.finite.specs.Lists.{values_below}
use Rattle.finite.proofs.Lists.{values_below_at, values_below_same}
use Rattle.cell_grid.specs.Points.{scrambled, point_of}

bit_is : (count : ℕ) (bits : List Bool) (f : ℕ → Bool) (n : ℕ) → bits ≡ values_below count f → n < count → get_or bits n false ≡ f n
bit_is count bits f n e inside = ap (λ bs. get_or bs n false) e ∙ values_below_at f count n false inside

pub points_are : (c_init d_init count : ℕ) (bits : List Bool) (f : ℕ → Bool) → c_init ≡ d_init → bits ≡ values_below (2 * count) f
    → values_below count (point_of (scrambled c_init (λ i. get_or bits i false))) ≡ values_below count (point_of (scrambled d_init f))
points_are c_init d_init count bits f same e =
    values_below_same count (point_of (scrambled c_init (λ i. get_or bits i false))) (point_of (scrambled d_init f))
    (λ k inside. rw (same, bit_is (2 * count) bits f (2 * k) e (omega (arith, inside)), bit_is (2 * count) bits f (2 * k + 1) e (omega (arith, inside))) refl)
