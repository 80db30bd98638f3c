-- Partial sums of complex integers in a loop, with their bound.
use Rattle.std.proofs.Common.{◌≡◌, ℕ, ◌+◌, ◌*◌, ◌^◌, ◌<◌, arith, ap, ap₂, sym, subst, ◌∙◌}
use Rattle.cs_num.specs.declared.Cpx.{Cpx}
use Rattle.cs_num.specs.Complex.{IsWithin, nothing, plus, largest_part}
use Rattle.cs_num.specs.Sums.{complex_sum_below}
use Rattle.cs_num.proofs.Complex.{largest_part-le, plus-within}
use Rattle.cs_num.proofs.Sums.{complex_sum_below_none, complex_sum_below_more}

pub record SoFar (bound n : ℕ) (f : ℕ → Cpx) (sum : Cpx) : Type 0 where
  pub is : sum ≡ complex_sum_below n f
  pub small : IsWithin (n * bound) sum

pub none_so_far : (bound : ℕ) (f : ℕ → Cpx) → SoFar bound 0 f nothing
none_so_far bound f = record { is = sym (complex_sum_below_none f); small = record { re = omega arith; im = omega arith } }

pub one_more : (bound n : ℕ) (f : ℕ → Cpx) (sum term new : Cpx) → SoFar bound n f sum → term ≡ f n → IsWithin bound term → new ≡ plus sum term →
    SoFar bound (n + 1) f new
one_more bound n f sum term new s t h e =
    let small = plus-within sum term (n * bound) bound ((n + 1) * bound) s.small h (omega arith) in
    record {
      is = e ∙ ap₂ plus s.is t ∙ sym (complex_sum_below_more n f);
      small = subst (IsWithin ((n + 1) * bound)) (sym e) small;
    }

pub has_room : (bound n : ℕ) (f : ℕ → Cpx) (sum term : Cpx) → SoFar bound n f sum → IsWithin bound term → (n + 1) * bound < 2 ^ 63 → largest_part sum + largest_part term < 2 ^ 63
has_room bound n f sum term s h room = omega (arith, room, largest_part-le sum (n * bound) s.small, largest_part-le term bound h)

-- after all terms, the partial sum is the complete sum, with its bound
pub all_so_far : (bound n count : ℕ) (f : ℕ → Cpx) (sum : Cpx) → SoFar bound n f sum → n ≡ count → (sum ≡ complex_sum_below count f) × IsWithin (count * bound) sum
all_so_far bound n count f sum s e = (s.is ∙ ap (λ m. complex_sum_below m f) e, subst (λ m. IsWithin (m * bound) sum) e s.small)
