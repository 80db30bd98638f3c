-- The errors, sample by sample.
use Rattle.std.proofs.Common.{◌≡◌, ℕ, ◌+◌, ◌*◌, ap, ap₂, ◌∙◌, arith, ℤ}
use Rattle.rand_pcg.specs.Lcg.{Lcg}
use Rattle.rand_pcg.specs.Pcg.{pcg32}
use Rattle.cs_num.specs.declared.Cpx.{Cpx}
use Rattle.cs_num.specs.declared.Sample.{Sample}
use Rattle.cs_num.specs.Complex.{value_of}
use Rattle.capture_make.specs.Errors.{generator, drawn, error}
use Rattle.capture_make.proofs.Words.{next_word}

-- the generator after the real component
after_one : (n i : ℕ) (words : Lcg) → words ≡ generator n (2 * i) → (pcg32 words).1 ≡ generator n (2 * i + 1)
after_one n i words h = ap (λ w. (pcg32 w).1) h ∙ next_word n (2 * i)

-- the generator after both components
pub after_two : (n i : ℕ) (words : Lcg) → words ≡ generator n (2 * i) → (pcg32 (pcg32 words).1).1 ≡ generator n (2 * (i + 1))
after_two n i words h =
    let count : 2 * i + 1 + 1 ≡ 2 * (i + 1) = omega arith in
    ap (λ w. (pcg32 w).1) (after_one n i words h) ∙ next_word n (2 * i + 1) ∙ ap (generator n) count

pub error_is : (n bound i : ℕ) (e : Sample) (words : Lcg) → words ≡ generator n (2 * i) → e.re ≡ drawn bound (pcg32 words).0 → e.im ≡ drawn bound (pcg32 (pcg32 words).1).0 → value_of e ≡ error n bound i
error_is n bound i e words h first second =
    ap₂ (λ (a b : ℤ). let z : Cpx = record { re = a; im = b } in z)
    (first ∙ ap (λ w. drawn bound (pcg32 w).0) h) (second ∙ ap (λ w. drawn bound (pcg32 w).0) (after_one n i words h))
