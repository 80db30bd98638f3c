-- Reading the frames that are tried, one after the other, and the ranges of the fields that are read.
use Rattle.std.proofs.Common.{◌≡◌, ◌≢◌, inl, inr, ℕ, zero, suc, ◌+◌, ◌<◌, List, [], ◌∷◌, ◌++◌, length, take, get_or, ℤ, Option, Some, None, Result, Ok, Err, IfOk, arith, refl, sym, subst}
use Rattle.std.specs.List.{HoldsAt}
use Rattle.std.proofs.lemmas.Bool.{cases_lt}
use Rattle.std.proofs.lemmas.List.{get_or_push, get_or_append_left}
use Rattle.lte_types.specs.declared.sib1.Sib1.{Sib1}
use Rattle.lte_types.specs.declared.sib1_reason.Sib1Reason.{Sib1Reason}
use Rattle.lte_types.specs.Ranges.{IsValid}
use Rattle.halving.specs.Wide.{Wide}
use Rattle.wide_cell.specs.Cell.{Cell}
use Rattle.wide_block.specs.Sums.{Offer}
use Rattle.wide_block.specs.Block.{SumsSay, OfferSays}
use Rattle.wide_block.proofs.Once.{read_is_valid}
use Rattle.wide_list.specs.First.{IsFirstOf}
use Rattle.explain.specs.System.{even_frame}
use Rattle.wide_list.specs.Frames.{Frame, IsAlone, IsReason, HasFields}
use Rattle.wide_list.specs.Together.{HasFieldsWith, HasFieldsTogether}
use Rattle.wide_list.specs.System.{IsWideSystem}
use Rattle.wide_list.proofs.Same.{not_alone}

-- ---- one more offer

-- the reason of a frame with one more offer
pub reason_more : (elements : ℕ) (offers : List Offer) (at : ℕ) (offer : Offer) (old other new : Sib1Reason) → at < length offers → offer ≡ get_or offers at offer →
    IsReason elements (take at offers) old → OfferSays offer (Err other) → (at ≡ 0 → new ≡ other) → (at ≢ 0 → new ≡ old) →
    IsReason elements (take (at + 1) offers) new
reason_more elements [] at offer old other new inside is before answers first later = absurd (omega (arith, inside))
reason_more elements (x ∷ xs) zero offer old other new inside is before answers first later =
    subst (λ (reason : Sib1Reason). OfferSays x (Err reason)) (sym (first refl)) (subst (λ offer. OfferSays offer (Err other)) is answers)
reason_more elements (x ∷ xs) (suc at) offer old other new inside is before answers first later =
    let next : suc (at + 1) ≡ suc at + 1 = omega arith in
    let same : new ≡ old = later (λ e. absurd (omega (arith, e))) in
    subst (λ n. IsReason elements (take n (x ∷ xs)) new) next (subst (λ (reason : Sib1Reason). OfferSays x (Err reason)) (sym same) before)

-- ---- one more frame

-- what holds of each item by its index holds of one more item
pub each_more : {A : Type 0} (P : ℕ → A → Type 0) (xs : List A) (n : ℕ) (x : A) → length xs ≡ n → ((h : ℕ) → h < n → HoldsAt (P h) xs h) → P n x →
    (h : ℕ) → h < n + 1 → HoldsAt (P h) (xs ++ x ∷ []) h
each_more P xs n x size each here h below d = elim (cases_lt h n) [
  | inl before ↦ subst (P h) (sym (get_or_append_left xs (x ∷ []) d h (omega (arith, before, size)))) (each h before d)
  | inr from ↦ let same : n ≡ h = omega (arith, below, from) in
      subst (λ h. P h (get_or (xs ++ x ∷ []) h d)) same (subst (P n) (sym (get_or_push xs x d n size)) here)
]

module _ (wide : Wide) (cell : Cell) (start sfn : ℕ) where
  -- none of the first n frames of even number has fields alone
  abbrev pub NoneBelow : ℕ → Type 0
  NoneBelow n = (h : ℕ) (fields : Sib1) → h < n → IsAlone wide cell start sfn (even_frame sfn h) (Ok fields) → ⊥

  pub none_more : (n : ℕ) (reason : Sib1Reason) → NoneBelow n → IsAlone wide cell start sfn (even_frame sfn n) (Err reason) → NoneBelow (n + 1)
  none_more n reason none refused h fields below alone = elim (cases_lt h n) [
    | inl before ↦ none h fields before alone
    | inr from ↦ let same : h ≡ n = omega (arith, below, from) in
        not_alone wide cell start sfn (even_frame sfn n) fields reason
        (subst (λ h. IsAlone wide cell start sfn (even_frame sfn h) (Ok fields)) same alone) refused
  ]

  -- the reason of the first frame
  pub first_more : (n : ℕ) (old other new : Sib1Reason) → (0 < n → IsAlone wide cell start sfn (even_frame sfn 0) (Err old)) →
      IsAlone wide cell start sfn (even_frame sfn n) (Err other) → (n ≡ 0 → new ≡ other) → (n ≢ 0 → new ≡ old) →
      IsAlone wide cell start sfn (even_frame sfn 0) (Err new)
  first_more zero old other new before refused first later =
      subst (λ (reason : Sib1Reason). IsAlone wide cell start sfn (even_frame sfn 0) (Err reason)) (sym (first refl)) refused
  first_more (suc n) old other new before refused first later =
      let same : new ≡ old = later (λ e. absurd (omega (arith, e))) in
      subst (λ (reason : Sib1Reason). IsAlone wide cell start sfn (even_frame sfn 0) (Err reason)) (sym same) (before (omega arith))

-- ---- fields are in their ranges

sums_are_valid : (sums : Option (List (List ℤ))) (size : ℕ) (fields : Sib1) → SumsSay sums size (Ok fields) → IsValid fields
sums_are_valid None size fields answers = absurd cc
sums_are_valid (Some sums) size fields answers = read_is_valid sums size fields answers

first_is_valid : (offers : List Offer) (fields : Sib1) → IsFirstOf HasFields offers fields → IsValid fields
first_is_valid [] fields first = let no = first.inside in absurd (omega (arith, no))
first_is_valid (offer ∷ rest) fields first = sums_are_valid _ _ fields (first.has offer)

first_with_is_valid : (frames : List Frame) (period : ℕ) (offers : List Offer) (fields : Sib1) → IsFirstOf (HasFieldsWith frames period) offers fields → IsValid fields
first_with_is_valid frames period [] fields first = let no = first.inside in absurd (omega (arith, no))
first_with_is_valid frames period (offer ∷ rest) fields first = read_is_valid _ _ fields (first.has offer)

together_is_valid : (frames all : List Frame) (fields : Sib1) → IsFirstOf (HasFieldsTogether all) frames fields → IsValid fields
together_is_valid [] all fields first = let no = first.inside in absurd (omega (arith, no))
together_is_valid (frame ∷ rest) all fields first = first_with_is_valid all _ _ fields (first.has frame)

pub system_is_valid : (wide : Wide) (cell : Cell) (start sfn : ℕ) (answer : Result Sib1 Sib1Reason) → IsWideSystem wide cell start sfn answer → IfOk answer IsValid
system_is_valid wide cell start sfn (Ok fields) (inl read) = first_is_valid _ fields read.answers.answers
system_is_valid wide cell start sfn (Ok fields) (inr read) = together_is_valid read.frames read.frames fields read.first
system_is_valid wide cell start sfn (Err reason) read = tt
