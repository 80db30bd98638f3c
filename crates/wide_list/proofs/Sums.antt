-- The offers like a grant, and their sums.
use Rattle.std.proofs.Common.{◌≡◌, ◌∙◌, ℕ, zero, suc, ◌+◌, ◌<◌, Bool, true, false, cond, List, [], ◌∷◌, ◌++◌, length, get_or, take, find, filter_map, Option, None, Some, arith, refl, ap}
use Rattle.std.specs.List.{AllWithin, cons_option}
use Rattle.std.proofs.lemmas.List.{take_more, append-nil}
use Rattle.std.proofs.lemmas.List.Elements.{filter_map-append}
use Rattle.std.proofs.lemmas.List.Sums.{fold_push}
use Rattle.wide_grant.specs.declared.grant.WideGrant.{WideGrant}
use Rattle.wide_block.specs.Sums.{Offer, plus_any, total, zero_sums}
use Rattle.wide_list.specs.Frames.{Frame}
use Rattle.wide_list.specs.Together.{like_in, like_offers, with_offer}

-- ---- the first item that passes a test

module _ {A : Type 0} (p : A → Bool) where
  pub find_first : (xs : List A) (i : ℕ) (d : A) → AllWithin (λ x. p x ≡ false) xs 0 i → i < length xs → p (get_or xs i d) ≡ true → find p xs ≡ Some (get_or xs i d)
  find_first [] i d none inside passes = absurd (omega (arith, inside))
  find_first (x ∷ xs) zero d none inside passes = ap (λ (b : Bool). cond b (Some x) (find p xs)) passes
  find_first (x ∷ xs) (suc i) d none inside passes =
      ap (λ (b : Bool). cond b (Some x) (find p xs)) (none 0 d (omega arith) (omega arith))
      ∙ find_first xs i d (λ k e low high. none (suc k) e (omega arith) (omega (arith, high))) (omega (arith, inside)) passes

  pub find_none : (xs : List A) → AllWithin (λ x. p x ≡ false) xs 0 (length xs) → find p xs ≡ None
  find_none [] none = refl
  find_none (x ∷ xs) none =
      ap (λ (b : Bool). cond b (Some x) (find p xs)) (none 0 x (omega arith) (omega arith))
      ∙ find_none xs (λ k e low high. none (suc k) e (omega arith) (omega (arith, high)))

-- ---- sums

-- the sums of offers and one more, if there is one
total_with : (offers : List Offer) (found : Option Offer) → total (offers ++ cons_option found []) ≡ with_offer (total offers) found
total_with offers None = ap total (append-nil offers)
total_with offers (Some offer) = fold_push (λ sums offer. plus_any sums offer.sums) zero_sums offers offer

-- the sums of the offers like a grant, with one more frame
pub total_more : (frames : List Frame) (i period : ℕ) (grant : WideGrant) (d : Frame) → i < length frames →
    total (like_offers (take (i + 1) frames) period grant) ≡ with_offer (total (like_offers (take i frames) period grant)) (like_in period grant (get_or frames i d))
total_more frames i period grant d inside =
    ap total (ap (filter_map (like_in period grant)) (take_more frames i d inside)
    ∙ filter_map-append (like_in period grant) (take i frames) (get_or frames i d ∷ []))
    ∙ total_with (like_offers (take i frames) period grant) (like_in period grant (get_or frames i d))
