-- The detection in a list of rows, and as a relation.
use Rattle.std.proofs.Common.{◌≡◌, ℕ, ◌≤◌, ◌<◌, Bool, true, false, nat_le, pos, List, Option, Some, None, arith, refl, ap, sym, subst, ◌∙◌}
use Rattle.std.specs.Prelude.{if◌then◌else◌}
use Rattle.std.proofs.lemmas.Bool.Decides.{nat_tests}
use Rattle.cs_num.specs.declared.Sample.{Sample}
use Rattle.lte_types.specs.declared.frame.Half.{Half}
use Rattle.sss_detect.proofs.Choices.{best_pair_is_best, only_one_is_best}
use Rattle.accumulated_sss.specs.declared.detecting.Detection.{Detection}
use Rattle.accumulated_sss.specs.Votes.{vote}
use Rattle.accumulated_sss.specs.Detection.{IsDetection, match_counts, pair_of, detected, if_enough, detection_at}
use Rattle.accumulated_sss.specs.Laws.{DetectionIsRight, OnlyOneDetection}
use Rattle.accumulated_sss.specs.Steps.{row_of, signs_of, counts_by}
use Rattle.accumulated_sss.proofs.Turns.{signs_match}

-- the counts from both rows are those of the 124 signs
pub counts_match : (recording : List Sample) (halves t n2 : ℕ) →
    counts_by (signs_of (row_of halves t 0 (vote recording n2))) (signs_of (row_of halves t 1 (vote recording n2))) n2 ≡ match_counts recording halves t n2
counts_match recording halves t n2 = λ i n1 half. pos (signs_match recording halves t n2 n1 half i)

-- detections with equal fields are equal
pub same_detection : {n m a b p q : ℕ} {half other : Half} → n ≡ m → half ≡ other → a ≡ b → p ≡ q →
    ◌≡◌ {A = Detection} (record { n1 = n; half = half; matches = a; power = p }) (record { n1 = m; half = other; matches = b; power = q })
same_detection e f g h = cc

same_some : (a b : Detection) → Some a ≡ Some b → a ≡ b
same_some a b e = ap (λ o. of o) e
  where
    of : Option Detection → Detection
    of (Some x) = x
    of None = a

not_none : (a : Detection) → None ≡ Some a → ⊥
not_none a e = grind arith

-- at least 93 matches give the detection, fewer give none
pub enough_given : (found : Detection) → 93 ≤ found.matches → if_enough found ≡ Some found
enough_given found h = let e : nat_le 93 found.matches ≡ true = grind (arith, nat_tests) in rw e refl

pub not_enough : (found : Detection) → found.matches < 93 → if_enough found ≡ None
not_enough found h = let e : nat_le 93 found.matches ≡ false = grind (arith, nat_tests) in rw e refl

enough_found : (given found : Detection) → if_enough given ≡ Some found → (given ≡ found) × (93 ≤ given.matches)
enough_found given found = settle (nat_le 93 given.matches) refl
  where
    settle : (b : Bool) → nat_le 93 given.matches ≡ b → (if b then Some given else None) ≡ Some found → (given ≡ found) × (93 ≤ given.matches)
    settle true e h = (same_some given found h, grind (arith, nat_tests))
    settle false e h = absurd (not_none found h)

module _ (recording : List Sample) (halves t n2 : ℕ) where
  abbrev pub chosen : Detection
  chosen = detected recording halves t n2 (pair_of recording halves t n2)

  pub chosen_is : 93 ≤ chosen.matches → IsDetection recording halves t n2 chosen
  chosen_is h = record { best = best_pair_is_best (match_counts recording halves t n2); matches = refl; enough = h; power = refl }

  pub is_chosen : (found : Detection) → IsDetection recording halves t n2 found → found ≡ chosen
  is_chosen found is =
      let pair = only_one_is_best (match_counts recording halves t n2) found.n1 found.half is.best in
      same_detection refl refl is.matches is.power ∙ both found.n1 _ found.half _ pair.0 pair.1
    where
      both : (n m : ℕ) (half other : Half) → n ≡ m → half ≡ other → detected recording halves t n2 (n, half) ≡ detected recording halves t n2 (m, other)
      both n m half other e f = λ i. detected recording halves t n2 (e i, f i)

pub detection_is_right : DetectionIsRight
unfolding detection_at
detection_is_right recording halves t n2 found = (there, back)
  where
    there : if_enough (chosen recording halves t n2) ≡ Some found → IsDetection recording halves t n2 found
    there h =
        let (is, enough) = enough_found (chosen recording halves t n2) found h in
        subst (IsDetection recording halves t n2) is (chosen_is recording halves t n2 enough)

    back : IsDetection recording halves t n2 found → if_enough (chosen recording halves t n2) ≡ Some found
    back is =
        let e = is_chosen recording halves t n2 found is in
        subst (λ d. if_enough d ≡ Some found) e (enough_given found is.enough)

pub only_one_detection : OnlyOneDetection
only_one_detection recording halves t n2 first second p q = is_chosen recording halves t n2 first p ∙ sym (is_chosen recording halves t n2 second q)
