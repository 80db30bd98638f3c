-- Correction by 0.
use Rattle.std.proofs.Common.{◌≡◌, ℕ, ◌+◌, ◌*◌, ◌/◌, length, arith, refl, ap, ap₂, sym, ◌∙◌, ℤ, pos, negsuc, ◌+ℤ◌, ◌-ℤ◌, ◌*ℤ◌, neg_ℤ, FitsSigned}
use Rattle.std.specs.Prelude.{slice_index_or}
use Rattle.std.specs.Int.{w16}
use Rattle.std.proofs.lemmas.Int.{ints}
use Rattle.finite.proofs.Lists.{values_below_is}
use Rattle.cs_num.specs.declared.Cpx.{Cpx}
use Rattle.cs_num.specs.declared.Sample.{Sample}
use Rattle.cs_num.specs.Complex.{nothing, sample_at, value_of, silence}
use Rattle.cs_num.specs.Rounding.{floor_div, round_shifted, in_16_bits}
use Rattle.cs_num.proofs.Samples.{in_16_bits-kept}
use Rattle.fold128.specs.Tables.{quarter, cosine, w_at}
use Rattle.frequency_offset.specs.Turned.{w_of, angle, turned_back, turned_at}
use Rattle.frequency_offset.specs.Laws.{Has16Bits, StaysAtZero}

one : Cpx
one = record { re = pos 16384; im = pos 0 }

w_is_one : w_of (pos 0) ≡ record { re = pos 16384; im = pos 0 }
unfolding w_at cosine quarter
w_is_one = refl

no_angle : (i : ℕ) → angle (pos 0) i ≡ pos 0
no_angle i = let e : 0 * i ≡ 0 = omega arith in rw e refl

-- x times 2^14 plus 2^13, divided by 2^14 and rounded down, is x
floor_back : (x : ℤ) → floor_div (x *ℤ pos 16384 +ℤ pos 8192) 16384 ≡ x
floor_back (pos n) = ap pos (let e : (n * 16384 + 8192) / 16384 ≡ n = omega arith in e)
floor_back (negsuc n) =
    let e : negsuc n *ℤ pos 16384 +ℤ pos 8192 ≡ negsuc (n * 16384 + 8191) = omega (arith, ints) in
    let d : (n * 16384 + 8191) / 16384 ≡ n = omega arith in
    ap (λ z. floor_div z 16384) e ∙ ap negsuc d

real : (x y : ℤ) → (x -ℤ pos 0) *ℤ pos 16384 -ℤ (y -ℤ pos 0) *ℤ neg_ℤ (pos 0) ≡ x *ℤ pos 16384
real x y = omega (arith, ints)

imaginary : (x y : ℤ) → (x -ℤ pos 0) *ℤ neg_ℤ (pos 0) +ℤ (y -ℤ pos 0) *ℤ pos 16384 ≡ y *ℤ pos 16384
imaginary x y = omega (arith, ints)

component : (x t : ℤ) → FitsSigned w16 x → t ≡ x *ℤ pos 16384 → in_16_bits (round_shifted t 14) ≡ x
component x t f e = ap (λ z. in_16_bits (floor_div (z +ℤ pos 8192) 16384)) e ∙ ap in_16_bits (floor_back x) ∙ in_16_bits-kept x f

sample_pair : {x y u v : ℤ} → x ≡ y → u ≡ v → ◌≡◌ {A = Sample} (record { re = x; im = u }) (record { re = y; im = v })
sample_pair e f = cc

same_sample : (a b : Sample) → a.re ≡ b.re → a.im ≡ b.im → a ≡ b
same_sample a b e f = sample_pair e f

back : (s : Sample) → Has16Bits s → turned_back (value_of s) nothing (pos 0) ≡ s
unfolding turned_back
back s h = rw w_is_one (same_sample _ s (component s.re _ h.re (real s.re s.im)) (component s.im _ h.im (imaginary s.re s.im)))

pub stays_at_zero : StaysAtZero
unfolding turned_at
stays_at_zero recording bits none = sym (values_below_is silence (length recording) (turned_at recording (pos 0)) recording refl
    (λ k l. sym (ap₂ (λ centre a. turned_back (sample_at recording k) centre a) none (no_angle k) ∙ back (slice_index_or recording k silence) (bits k silence l))))
