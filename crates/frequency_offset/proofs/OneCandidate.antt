-- The candidate at one coarse offset, and the growing list.
use Rattle.std.proofs.Common.{◌≡◌, ℕ, ◌+◌, List, [], ◌++◌, take, Option, arith, ap, sym, subst, ◌∙◌, ℤ}
use Rattle.std.specs.Prelude.{All, option_map, option_to_list}
use Rattle.finite.proofs.Lists.{joined_below_none, joined_below_more}
use Rattle.cs_num.specs.declared.Sample.{Sample}
use Rattle.lte_types.specs.declared.hit.Hit.{Hit}
use Rattle.pss_search.specs.Hits.{hits_of}
use Rattle.pss_search.proofs.Agree.{hits_agree}
use Rattle.frequency_offset.specs.declared.candidate.Candidate.{Candidate}
use Rattle.frequency_offset.specs.Turned.{turned}
use Rattle.frequency_offset.specs.Fractions.{fraction_of, greatest}
use Rattle.frequency_offset.specs.Candidates.{candidate_by, candidate_at, coarse_turn, coarsely_turned, candidates_below}
use Rattle.frequency_offset.specs.Steps.{IsSmallHit}
use Rattle.frequency_offset.proofs.HitSizes.{hits_are_small}

-- the candidate from the best hit, or none
pub candidate_is : (recording x : List Sample) (k : ℕ) (hits : List Hit) (o : Option Hit) → x ≡ coarsely_turned recording k → hits ≡ hits_of x → o ≡ greatest fraction_of hits →
    option_map (candidate_by x k) o ≡ candidate_at recording k
unfolding candidate_at
candidate_is recording x k hits o e h g =
    ap (option_map (candidate_by x k)) (g ∙ ap (greatest fraction_of) h) ∙ ap (λ y. option_map (candidate_by y k) (greatest fraction_of (hits_of y))) e

pub is_turned : (recording x : List Sample) (k : ℕ) (m n : ℤ) → x ≡ turned recording n → n ≡ m → m ≡ coarse_turn k → x ≡ coarsely_turned recording k
is_turned recording x k m n is e f = is ∙ ap (turned recording) (e ∙ f)

pub no_candidates : (recording : List Sample) → candidates_below recording 0 ≡ []
unfolding candidates_below
no_candidates recording = joined_below_none _

pub one_candidate : (recording : List Sample) (k : ℕ) (old new : List Candidate) (o : Option Candidate) → old ≡ candidates_below recording k →
    o ≡ candidate_at recording k → new ≡ old ++ option_to_list o → new ≡ candidates_below recording (k + 1)
unfolding candidates_below
one_candidate recording k old new o before e now =
    now ∙ ap (λ xs. xs ++ option_to_list o) before ∙ ap (λ c. candidates_below recording k ++ option_to_list c) e
    ∙ sym (joined_below_more k (λ i. option_to_list (candidate_at recording i)))

-- recordings with equal samples in the PSS search have equal hits
pub hits_counted : (x front : List Sample) (list slice : List Hit) → take 19473 front ≡ take 19473 x → list ≡ hits_of front → slice ≡ list → slice ≡ hits_of x
hits_counted x front list slice f l s = s ∙ l ∙ hits_agree 19473 front x f (omega arith)

-- the hits' fractions have bounded numbers
pub small_estimate : (recording x : List Sample) (m : ℤ) (hits : List Hit) → x ≡ turned recording m → hits ≡ hits_of x → All IsSmallHit hits
small_estimate recording x m hits e h = subst (λ (xs : List Hit). All IsSmallHit xs) (sym (h ∙ ap hits_of e)) (hits_are_small recording m)
