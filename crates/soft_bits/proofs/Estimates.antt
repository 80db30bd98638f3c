-- The line through the pilots.
use Rattle.std.proofs.Common.{◌≡◌, ℕ, ◌+◌, ◌-◌, ◌/◌, ◌%◌, ◌<◌, Bool, true, false, nat_lt, refl, ap, arith}
use Rattle.std.specs.Prelude.{if◌then◌else◌}
use Rattle.std.proofs.lemmas.Bool.{ltb-true}
use Rattle.cs_num.specs.declared.Cpx.{Cpx}
use Rattle.cs_num.specs.Complex.{multiple}
use Rattle.soft_bits.specs.Estimate.{place_by, between_by, line_by}

-- the line depends only on the pilots up to the last
pub line-same : (step last : ℕ) (f g : ℕ → Cpx) (shift k : ℕ) → (k < place_by step shift last → (k - shift) / step < last) →
    ((i : ℕ) → i < last + 1 → f i ≡ g i) → line_by step last f shift k ≡ line_by step last g shift k
line-same step last f g shift k inside same = first (nat_lt k (place_by step shift 0))
  where
    second : (b : Bool) → nat_lt k (place_by step shift last) ≡ b →
        (if b then between_by step f ((k - shift) / step) ((k - shift) % step) else multiple step (f last))
        ≡ (if b then between_by step g ((k - shift) / step) ((k - shift) % step) else multiple step (g last))
    second true high =
        let few = inside (ltb-true k (place_by step shift last) high) in
        rw (same ((k - shift) / step) (omega (arith, few)), same ((k - shift) / step + 1) (omega (arith, few))) refl
    second false high = ap (multiple step) (same last (omega arith))

    first : (b : Bool) →
        (if b then multiple step (f 0) else (if nat_lt k (place_by step shift last) then between_by step f ((k - shift) / step) ((k - shift) % step) else multiple step (f last)))
        ≡ (if b then multiple step (g 0) else (if nat_lt k (place_by step shift last) then between_by step g ((k - shift) / step) ((k - shift) % step) else multiple step (g last)))
    first true = ap (multiple step) (same 0 (omega arith))
    first false = second (nat_lt k (place_by step shift last)) refl
