-- A demodulated value in parts, as its main part and a deviation in units of the gain.
use Rattle.std.proofs.Common.{◌≡◌, ℕ, ◌*◌, ap, sym, ◌∙◌, pos}
use Rattle.cs_num.specs.declared.Cpx.{Cpx}
use Rattle.cs_num.specs.Complex.{plus, times, conjugate, square, minus, multiple}
use Rattle.cs_num.proofs.Complex.{times-plus_left}
use Rattle.norms.specs.Magnitudes.{IsBounded}
use Rattle.norms.proofs.Algebra.{plus-minus, times-associates, times-multiple, multiple-times, times_real, multiple_twice}
use Rattle.norms.proofs.Squares.{times_conjugate}
use Rattle.budget.specs.Received.{in_parts, IsSeenNear}

unfoldable pub deviation : Cpx → Cpx → Cpx → Cpx
deviation gain amplitude seen = minus (in_parts seen) (multiple 64 (times gain amplitude))

pub seen_is : (gain amplitude seen : Cpx) → in_parts seen ≡ plus (times gain (multiple 64 amplitude)) (deviation gain amplitude seen)
unfolding deviation
seen_is gain amplitude seen =
    sym (plus-minus (in_parts seen) (multiple 64 (times gain amplitude)))
    ∙ ap (λ (z : Cpx). plus z (minus (in_parts seen) (multiple 64 (times gain amplitude)))) (sym (times-multiple 64 gain amplitude))

pub deviation-bounded : (most n : ℕ) (gain amplitude seen : Cpx) → IsSeenNear most n (times gain amplitude) seen → IsBounded most n (deviation gain amplitude seen)
unfolding deviation
deviation-bounded most n gain amplitude seen is = record { bounded = is.off }

-- the demodulated value of a known amplitude d, times the conjugate of d, is 64 |d|^2 times the gain in parts, up to a
-- deviation
pub channel_is : (g d p : Cpx) → in_parts (times p (conjugate d)) ≡ plus (multiple (64 * square d) g) (times (deviation g d p) (conjugate d))
channel_is g d p =
    sym (multiple-times 16384 p (conjugate d))
    ∙ ap (λ (z : Cpx). times z (conjugate d)) (seen_is g d p) ∙ times-plus_left (times g (multiple 64 d)) (deviation g d p) (conjugate d)
    ∙ ap (λ (z : Cpx). plus z (times (deviation g d p) (conjugate d))) main
  where
    main : times (times g (multiple 64 d)) (conjugate d) ≡ multiple (64 * square d) g
    main =
        times-associates g (multiple 64 d) (conjugate d) ∙ ap (times g) (multiple-times 64 d (conjugate d) ∙ ap (multiple 64) (times_conjugate d))
        ∙ times-multiple 64 g (record { re = pos (square d); im = pos 0 }) ∙ ap (multiple 64) (times_real (square d) g) ∙ multiple_twice 64 (square d) g
