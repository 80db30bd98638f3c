-- Subcarriers from a list of values.
use Rattle.std.proofs.Common.{◌≡◌, ℕ, ◌-◌, arith, Bool, true, false, nat_lt, refl, ltb-true}
use Rattle.std.specs.Prelude.{if◌then◌else◌}
use Rattle.finite.specs.Lists.{values_below}
use Rattle.finite.proofs.Lists.{values_below_at, values_below_same}
use Rattle.cs_num.specs.declared.Cpx.{Cpx}
use Rattle.cs_num.specs.Complex.{nothing, value_at}
use Rattle.sync_seq.specs.Middle.{in_middle}

in_middle_at : (values : ℕ → Cpx) (k : ℕ) → in_middle (value_at (values_below 62 values)) k ≡ in_middle values k
in_middle_at values k = low (nat_lt k 5) refl
  where
    high : (b : Bool) → nat_lt k 67 ≡ b → (if b then value_at (values_below 62 values) (k - 5) else nothing) ≡ (if b then values (k - 5) else nothing)
    high true e = values_below_at values 62 (k - 5) nothing (omega (arith, ltb-true _ _ e))
    high false e = refl

    low : (b : Bool) → nat_lt k 5 ≡ b → (if b then nothing else if nat_lt k 67 then value_at (values_below 62 values) (k - 5) else nothing) ≡ (if b then nothing else if nat_lt k 67 then values (k - 5) else nothing)
    low true e = refl
    low false e = high (nat_lt k 67) refl

pub in_middle_list : (values : ℕ → Cpx) → values_below 72 (in_middle (value_at (values_below 62 values))) ≡ values_below 72 (in_middle values)
in_middle_list values = values_below_same 72 (in_middle (value_at (values_below 62 values))) (in_middle values) (λ k l. in_middle_at values k)
