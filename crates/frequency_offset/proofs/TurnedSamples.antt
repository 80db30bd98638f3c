-- The samples of a corrected recording.
use Rattle.std.proofs.Common.{◌≡◌, ℕ, ◌<◌, ◌≤◌, List, length, get_or, ◌⊎◌, inl, inr, arith, ap, sym, subst, ℤ}
use Rattle.std.proofs.lemmas.Bool.{cases_lt}
use Rattle.std.proofs.Math.ListN.{get_or-eq_default}
use Rattle.finite.proofs.Lists.{values_below-length, values_below_at}
use Rattle.cs_num.specs.declared.Sample.{Sample}
use Rattle.cs_num.specs.Complex.{IsWithin, sample_at, value_of, silence}
use Rattle.cs_num.proofs.Samples.{nearest_sample-within}
use Rattle.frequency_offset.specs.Turned.{turned_back, turned_at, turned}

pub turned-length : (recording : List Sample) (m : ℤ) → length (turned recording m) ≡ length recording
turned-length recording m = values_below-length (length recording) (turned_at recording m)

pub turned_sample : (recording : List Sample) (m : ℤ) (i : ℕ) → i < length recording → sample_at (turned recording m) i ≡ value_of (turned_at recording m i)
turned_sample recording m i l = ap value_of (values_below_at (turned_at recording m) (length recording) i silence l)

-- ---- magnitudes

turned_at_small : (recording : List Sample) (m : ℤ) (i : ℕ) → IsWithin 32768 (value_of (turned_at recording m i))
unfolding turned_at turned_back
turned_at_small recording m i = nearest_sample-within _

pub turned-within : (recording : List Sample) (m : ℤ) (i : ℕ) → IsWithin 32768 (sample_at (turned recording m) i)
turned-within recording m i = settle (cases_lt i (length recording))
  where
    settle : (i < length recording) ⊎ (length recording ≤ i) → IsWithin 32768 (sample_at (turned recording m) i)
    settle (inl inside) = rw (turned_sample recording m i inside) (turned_at_small recording m i)
    settle (inr outside) =
        let long = turned-length recording m in
        let none : get_or (turned recording m) i silence ≡ silence = get_or-eq_default (turned recording m) silence (omega (arith, long, outside)) in
        subst (λ (s : Sample). IsWithin 32768 (value_of s)) (sym none) (record { re = omega arith; im = omega arith })

-- an index in a corrected recording is one in the recording
pub inside_is : (recording x : List Sample) (m : ℤ) (i : ℕ) → turned recording m ≡ x → i < length x → i < length recording
inside_is recording x m i e l = let long = turned-length recording m in let same = ap length e in omega (arith, long, same, l)
