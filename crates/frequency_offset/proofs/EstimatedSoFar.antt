-- The estimate from the first of the selected candidates.
use Rattle.std.proofs.Common.{◌≡◌, ℕ, ◌+◌, ◌<◌, inl, inr, List, [], ◌∷◌, length, Option, Some, None, arith, refl, sym, subst, ◌∙◌}
use Rattle.std.specs.Prelude.{HoldsAt}
use Rattle.std.specs.List.{AllWithin}
use Rattle.std.specs.Option.{option_or}
use Rattle.std.proofs.lemmas.List.Elements.{AllWithin-more, AllWithin-none}
use Rattle.cs_num.specs.declared.Sample.{Sample}
use Rattle.frequency_offset.specs.declared.candidate.Candidate.{Candidate}
use Rattle.frequency_offset.specs.declared.estimation.OffsetEstimate.{OffsetEstimate}
use Rattle.frequency_offset.specs.Turned.{turned}
use Rattle.frequency_offset.specs.Estimation.{HasCells, Estimates, IsSilent, IsEstimatedBy}

-- the first candidate's estimate, if there is a candidate
abbrev pub IsFirstOf : List Sample → List Candidate → ℕ → Option OffsetEstimate → Type 0
IsFirstOf recording taken n None = n ≡ 0
IsFirstOf recording taken n (Some estimate) = (0 < n) × HoldsAt (λ candidate. Estimates recording candidate estimate) taken 0

pub record EstimatedSoFar (recording : List Sample) (taken : List Candidate) (n : ℕ) (first : Option OffsetEstimate) : Type 0 where
  pub silent : AllWithin (IsSilent recording) taken 0 n
  pub first_is : IsFirstOf recording taken n first

pub none_estimated : (recording : List Sample) (taken : List Candidate) → EstimatedSoFar recording taken 0 None
none_estimated recording taken = record { silent = AllWithin-none (IsSilent recording) taken 0; first_is = refl }

is_silent : (recording : List Sample) (candidate : Candidate) (estimate : OffsetEstimate) → Estimates recording candidate estimate → estimate.cells ≡ 0 → IsSilent recording candidate
is_silent recording candidate estimate t e = subst (HasCells (turned recording candidate.turn)) e t.cells

pub one_silent : (recording : List Sample) (taken : List Candidate) (n : ℕ) (first : Option OffsetEstimate) (estimate : OffsetEstimate) → EstimatedSoFar recording taken n first →
    HoldsAt (λ candidate. Estimates recording candidate estimate) taken n → estimate.cells ≡ 0 → EstimatedSoFar recording taken (n + 1) (option_or first (Some estimate))
one_silent recording taken n None estimate s h e = record {
  silent = AllWithin-more (IsSilent recording) taken 0 n s.silent (λ d. is_silent recording _ estimate (h d) e);
  first_is = (omega arith, subst (λ k. HoldsAt (λ candidate. Estimates recording candidate estimate) taken k) s.first_is h);
}
one_silent recording taken n (Some before) estimate s h e = record {
  silent = AllWithin-more (IsSilent recording) taken 0 n s.silent (λ d. is_silent recording _ estimate (h d) e);
  first_is = (omega arith, s.first_is.1);
}

pub one_heard : (recording : List Sample) (taken : List Candidate) (n : ℕ) (first : Option OffsetEstimate) (estimate : OffsetEstimate) → EstimatedSoFar recording taken n first →
    n < length taken → HoldsAt (λ candidate. Estimates recording candidate estimate) taken n → 0 < estimate.cells → IsEstimatedBy recording taken (Some estimate)
one_heard recording taken n first estimate s inside h some = inl (record { place = n; inside = inside; silent = s.silent; estimates = h; some = some })

empty_list : {A : Type 0} (xs : List A) → length xs ≡ 0 → xs ≡ []
empty_list [] e = refl
empty_list (x ∷ xs) e = absurd (omega (arith, e))

pub none_heard : (recording : List Sample) (taken : List Candidate) (n : ℕ) (first : Option OffsetEstimate) → EstimatedSoFar recording taken n first → n ≡ length taken →
    IsEstimatedBy recording taken first
none_heard recording taken n None s e = empty_list taken (sym e ∙ s.first_is)
none_heard recording taken n (Some estimate) s e = inr (record {
  inside = omega (arith, e, s.first_is.0);
  silent = λ k d l. s.silent k d (omega arith) (omega (arith, e, l));
  estimates = s.first_is.1;
})
