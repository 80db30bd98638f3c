use Rattle.std.proofs.Common.{rules, arith, ◌≡◌, ◌∙◌, ◌*◌, ◌^◌, ◌≤◌, ap, ap₂, ℤ, [], ◌∷◌, FitsSigned, to_z, of_z, w64}
use Rattle.std.specs.Int.{w16}
use Rattle.std.proofs.lemmas.Int.{to_z-of_z, fits_signed_from_abs}
use Rattle.std.proofs.lemmas.Nat.{mul-le}
use Rattle.std.proofs.lemmas.List.Elements.{All-cons, All-nil}
use Rattle.std.specs.Prelude.{nat_abs}
use Rattle.finite.specs.Sizes.{AllWithin}
use Rattle.cs_num.specs.declared.Cpx.{Cpx}
use Rattle.cs_num.specs.Complex.{IsWithin, times, conjugate, largest_part}
use Rattle.cs_num.proofs.Complex.{times-within, largest_part-le, conjugate-within}
use Rattle.soft_bits.specs.Soft.{soft_value}
use Rattle.soft_bits.proofs.value.soft_pair.Goals as goal

-- a received value times a conjugated channel
within : (a b h : Cpx) → h ≡ conjugate b → IsWithin (2 ^ 25) a → IsWithin (540 * 2 ^ 25) b → IsWithin (540 * 2 ^ 25) h × IsWithin (1080 * 2 ^ 50) (times a h)
within a b h e p q =
    let s : IsWithin (540 * 2 ^ 25) h = rw e (conjugate-within b (540 * 2 ^ 25) q) in
    (s, times-within a h (2 ^ 25) (540 * 2 ^ 25) (540 * 2 ^ 50) p s (omega arith))

pub mul-value-requires : goal.mul-value-requires
mul-value-requires c =
    let both = within c.args.seen c.args.channel c.conj.result c.conj.ensures c.requires.seen c.requires.channel in
    omega (arith, mul-le (largest_part c.args.seen) (largest_part c.conj.result) (2 ^ 25) (540 * 2 ^ 25) (largest_part-le _ _ c.requires.seen) (largest_part-le _ _ both.0))

-- a number within the bound is read back from 64 bits
back : (z : ℤ) → IsWithin (1080 * 2 ^ 50) (record { re = z; im = z }) → to_z w64 (of_z w64 z) ≡ z
back z s = to_z-of_z w64 z (fits_signed_from_abs w64 z (omega (arith, s.re)))

pub value_of-requires-clause-component : goal.value_of-requires-clause-component
value_of-requires-clause-component c =
    let both = within c.args.seen c.args.channel c.conj.result c.conj.ensures c.requires.seen c.requires.channel in
    let s : IsWithin (1080 * 2 ^ 50) c.mul-value.result = rw c.mul-value.ensures both.1 in
    rw (back c.mul-value.result.re (record { re = s.re; im = s.re })) s.re

pub value_of-requires-2-clause-component : goal.value_of-requires-2-clause-component
value_of-requires-2-clause-component c =
    let both = within c.args.seen c.args.channel c.conj.result c.conj.ensures c.requires.seen c.requires.channel in
    let s : IsWithin (1080 * 2 ^ 50) c.mul-value.result = rw c.mul-value.ensures both.1 in
    rw (back c.mul-value.result.im (record { re = s.im; im = s.im })) s.im

two_within : (x y a b : ℤ) → a ≡ x → b ≡ y → nat_abs x ≤ 127 → nat_abs y ≤ 127 → AllWithin 127 (a ∷ b ∷ [])
two_within x y a b e f p q =
    let P : ℤ → Type 0 = λ z. nat_abs z ≤ 127 in
    All-cons P a (b ∷ []) (rw e p) (All-cons P b [] (rw f q) (All-nil P))

pub returns-clause-range : goal.returns-clause-range
returns-clause-range c =
    let a : FitsSigned w16 c.value_of.result = search rules in
    let b : FitsSigned w16 c.value_of-2.result = search rules in
    two_within c.value_of.result c.value_of-2.result _ _ (to_z-of_z w16 c.value_of.result a) (to_z-of_z w16 c.value_of-2.result b) c.value_of.ensures.range c.value_of-2.ensures.range

pub returns-clause-values : goal.returns-clause-values
returns-clause-values c =
    let both = within c.args.seen c.args.channel c.conj.result c.conj.ensures c.requires.seen c.requires.channel in
    let s : IsWithin (1080 * 2 ^ 50) c.mul-value.result = rw c.mul-value.ensures both.1 in
    let turned : c.mul-value.result ≡ times c.args.seen (conjugate c.args.channel) = c.mul-value.ensures ∙ ap (times c.args.seen) c.conj.ensures in
    let re : to_z w64 (of_z w64 c.mul-value.result.re) ≡ (times c.args.seen (conjugate c.args.channel)).re =
    back c.mul-value.result.re (record { re = s.re; im = s.re }) ∙ ap (λ (z : Cpx). z.re) turned in
    let im : to_z w64 (of_z w64 c.mul-value.result.im) ≡ (times c.args.seen (conjugate c.args.channel)).im =
    back c.mul-value.result.im (record { re = s.im; im = s.im }) ∙ ap (λ (z : Cpx). z.im) turned in
    let a : FitsSigned w16 c.value_of.result = search rules in
    let b : FitsSigned w16 c.value_of-2.result = search rules in
    ap₂ (λ (x y : ℤ). x ∷ y ∷ [])
    (to_z-of_z w16 _ a ∙ c.value_of.ensures.value ∙ ap (λ z. soft_value z c.args.energy) re)
    (to_z-of_z w16 _ b ∙ c.value_of-2.ensures.value ∙ ap (λ z. soft_value z c.args.energy) im)
