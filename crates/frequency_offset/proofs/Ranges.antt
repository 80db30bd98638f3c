-- Bounds on each candidate: the range of its offset, and the numbers in its fraction.
use Rattle.std.proofs.Common.{◌≡◌, ℕ, zero, suc, ◌<◌, ◌≤◌, ◌⊎◌, inl, inr, List, [], ◌∷◌, Option, Some, None, arith, refl, sym, subst, ℤ, pos, negsuc, ◌+ℤ◌, ◌*ℤ◌, ◌≤ℤ◌}
use Rattle.std.specs.Prelude.{All, option_map, option_to_list, nat_abs}
use Rattle.std.proofs.lemmas.Int.{ints}
use Rattle.std.proofs.lemmas.List.Elements.{All-append}
use borrow.Author.Differences.{up, down}
use Rattle.finite.specs.Lists.{joined_below}
use Rattle.finite.proofs.Integers.{one_part}
use Rattle.cs_num.specs.declared.Cpx.{Cpx}
use Rattle.cs_num.specs.declared.Sample.{Sample}
use Rattle.lte_types.specs.declared.hit.Hit.{Hit}
use Rattle.pss_search.specs.Hits.{hits_of}
use Rattle.sss_detect.specs.Identity.{first_greatest}
use Rattle.sss_detect.proofs.Choices.{first_greatest-le}
use Rattle.frequency_offset.specs.declared.candidate.Candidate.{Candidate}
use Rattle.frequency_offset.specs.declared.estimation.OffsetEstimate.{OffsetEstimate}
use Rattle.frequency_offset.specs.Turned.{turned}
use Rattle.frequency_offset.specs.Order.{by_magnitude}
use Rattle.frequency_offset.specs.Fine.{fit, best_fit, prefix_sum, fine_turn}
use Rattle.frequency_offset.specs.Fractions.{fraction_of, greatest, IsSmall}
use Rattle.frequency_offset.specs.Candidates.{candidate_by, candidate_at, coarse_turn, candidates_below, candidates_of, taken_of}
use Rattle.frequency_offset.specs.Estimation.{IsFirstWithCells, IsFirstWithoutCells}
use Rattle.frequency_offset.specs.Laws.{TurnIsInRange}
use Rattle.frequency_offset.specs.Steps.{IsSmallHit, IsSmallCandidate}
use Rattle.frequency_offset.proofs.ByMagnitude.{by_magnitude_between}
use Rattle.frequency_offset.proofs.HitSizes.{hits_are_small}
use Rattle.frequency_offset.proofs.Greatest.{greatest_has}
use Rattle.frequency_offset.proofs.Takes.{taken_has}

-- an offset from -576 to 575
pub record IsInTurns (turn : ℤ) : Type 0 where
  pub least : negsuc 575 ≤ℤ turn
  pub most : turn ≤ℤ pos 575

pub record IsGood (candidate : Candidate) : Type 0 where
  pub turn : IsInTurns candidate.turn
  pub fraction : IsSmall candidate.fraction

coarse_and_fine : (coarse fine : ℤ) → up coarse ≤ 16 → down coarse ≤ 16 → up fine ≤ 63 → down fine ≤ 64 → IsInTurns (pos 32 *ℤ coarse +ℤ fine)
coarse_and_fine coarse fine a b c d = record { least = omega (arith, ints); most = omega (arith, ints) }

fine_between : (sum : Cpx) → (up (best_fit sum) ≤ 63) × (down (best_fit sum) ≤ 64)
unfolding best_fit
fine_between sum =
    let k = first_greatest (λ k. fit sum (by_magnitude k)) 127 in
    let l : k ≤ 127 = first_greatest-le (λ k. fit sum (by_magnitude k)) 127 in
    let b = by_magnitude_between k in
    (omega (arith, l, b.0), omega (arith, l, b.1))

in_turns : (recording : List Sample) (k : ℕ) (best : Hit) → k < 33 → IsInTurns (coarse_turn k +ℤ fine_turn (turned recording (coarse_turn k)) best.t)
in_turns recording k best l =
    let b = by_magnitude_between k in
    let f = fine_between (prefix_sum (turned recording (coarse_turn k)) best.t) in
    coarse_and_fine (by_magnitude k) (fine_turn (turned recording (coarse_turn k)) best.t) (omega (arith, l, b.0)) (omega (arith, l, b.1)) f.0 f.1

one_alone : (candidate : Candidate) → IsGood candidate → All IsGood (candidate ∷ [])
one_alone candidate h zero d inside = h
one_alone candidate h (suc i) d inside = absurd (omega (arith, inside))

all_at : (recording : List Sample) (k : ℕ) → k < 33 → All IsGood (option_to_list (candidate_at recording k))
unfolding candidate_at
all_at recording k l = settle (greatest fraction_of (hits_of (turned recording (coarse_turn k)))) refl
  where
    settle : (o : Option Hit) → greatest fraction_of (hits_of (turned recording (coarse_turn k))) ≡ o →
        All IsGood (option_to_list (option_map (candidate_by (turned recording (coarse_turn k)) k) o))
    settle None e = λ i d inside. absurd (omega (arith, inside))
    settle (Some best) e =
        let small = greatest_has IsSmallHit fraction_of (hits_of (turned recording (coarse_turn k))) best (hits_are_small recording (coarse_turn k)) e in
        one_alone _ (record { turn = in_turns recording k best l; fraction = small.fraction })

all_below : (recording : List Sample) (n : ℕ) → n ≤ 33 → All IsGood (candidates_below recording n)
unfolding candidates_below joined_below
all_below recording zero l = λ i d inside. absurd (omega (arith, inside))
all_below recording (suc n) l =
    All-append IsGood (candidates_below recording n) (option_to_list (candidate_at recording n)) (all_below recording n (omega (arith, l))) (all_at recording n (omega (arith, l)))

turn_small : (turn : ℤ) → IsInTurns turn → nat_abs turn ≤ 576
turn_small turn h = omega (arith, ints, h.least, h.most, one_part turn)

pub candidates_are_small : (recording : List Sample) → All IsSmallCandidate (candidates_of recording)
candidates_are_small recording k d inside =
    let good = all_below recording 33 (omega arith) k d inside in
    record { turn = turn_small _ good.turn; fraction = good.fraction }

taken_are_good : (recording : List Sample) → All IsGood (taken_of recording)
taken_are_good recording = taken_has IsGood 4 (candidates_of recording) (all_below recording 33 (omega arith))

abbrev nothing_estimated : Candidate
nothing_estimated = record { coarse = pos 0; turn = pos 0; hits = 0; fraction = record { peak = 0; energy = 0; power = 0 } }

range_of : (recording : List Sample) (estimate : OffsetEstimate) → IsFirstWithCells recording (taken_of recording) estimate ⊎ IsFirstWithoutCells recording (taken_of recording) estimate → IsInTurns estimate.turn
range_of recording estimate (inl p) = subst IsInTurns (sym (p.estimates nothing_estimated).turn) (taken_are_good recording p.place nothing_estimated p.inside).turn
range_of recording estimate (inr p) = subst IsInTurns (sym (p.estimates nothing_estimated).turn) (taken_are_good recording 0 nothing_estimated p.inside).turn

pub turn_is_in_range : TurnIsInRange
turn_is_in_range recording estimate is = let r = range_of recording estimate is in record { least = r.least; most = r.most }
