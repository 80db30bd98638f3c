-- If a subframe's control region has the signs of an indicator's and a grant's bits, it determines both, and the
-- attempt returns them.
use Rattle.std.proofs.Common.{◌≡◌, ℕ, ◌*◌, ◌/◌, ◌≤◌, arith, refl, ap, sym, ◌∙◌, subst, Bool, List, ◌++◌, length, get_or, pos, Option, None, Some, Result, Ok, Err}
use Rattle.std.specs.Result.{result_ok}
use Rattle.std.proofs.lemmas.Option.{none-some}
use Rattle.cs_bits.specs.Numbers.{bits_of}
use Rattle.cs_bits.specs.Checks.{message_of, HasCheck16}
use Rattle.cs_bits.proofs.Signs.{supports-speaks}
use Rattle.cs_bits.proofs.Checks.{checked_16}
use Rattle.lte_types.specs.declared.duration.Duration.{Duration}
use Rattle.lte_types.specs.declared.resource.Resource.{Resource}
use Rattle.lte_types.specs.declared.sib1.Sib1.{Sib1}
use Rattle.lte_types.specs.declared.sib1_reason.Sib1Reason.{Sib1Reason}
use Rattle.conv_code.specs.Reading.{summed}
use Rattle.conv_code.proofs.Sums.{length-summed}
use Rattle.tailbite.specs.Clean.{Speaks}
use Rattle.grid_map.specs.Control.{pcfich_places, pdcch_groups, group_count, element_count}
use Rattle.grid_map.specs.Scrambling.{pcfich_c_init, pdcch_c_init, indicator_bit}
use Rattle.grid_map.specs.Laws.{CarryCandidate}
use Rattle.grid_map.proofs.Regions.{pdcch_count}
use Rattle.grid_map.proofs.Pieces.{length-pcfich_places, length-candidate_places}
use Rattle.grid_map.proofs.Indexed.{pdcch_carry}
use Rattle.dci.specs.declared.grant.Grant.{Grant}
use Rattle.dci.specs.Fields.{system_information_rnti}
use Rattle.dci.specs.Format1A.{IsGrant, Carries, sent_word}
use Rattle.dci.proofs.Words.{sent_carries}
use Rattle.soft_bits.specs.Soft.{SeenSlot}
use Rattle.pcfich.specs.Indicator.{IsIndicator, Speak}
use Rattle.pcfich.specs.Values.{indicator_values, indicator_values_by}
use Rattle.pcfich.proofs.Indicators.{some_indicator, spoken_indicator}
use Rattle.pdcch.specs.Candidate.{stream_values_by, candidate_values}
use Rattle.sib1_reader.specs.Subframe.{Subframe, one_port}
use Rattle.sib1_reader.specs.Control.{Grants}
use Rattle.sib1_reader.specs.Attempt.{Follows}
use Rattle.sib1_reader.proofs.Once.{one_grant}
use Rattle.cell_grid.specs.Block.{coded_bit}
use Rattle.clean_air.specs.Words.{SpeakInOrder, IsOnlyWord}
use Rattle.clean_air.specs.Carried.{AreHeard}
use Rattle.clean_air.specs.Indicator.{IsOnlyIndicator, SentIndicatorIsDecoded, DecodesIndicator, indicator_scrambled, HeardIndicatorIsDecoded, CarriedIndicatorIsDecoded}
use Rattle.clean_air.specs.Grant.{grant_word, IsOnlyGrant, SentGrantIsDecoded, DecodesGrant, grant_places, grant_scrambled, HeardGrantIsDecoded, CarriedGrantIsDecoded}
use Rattle.clean_air.specs.Attempt.{IsReadWith, SpokenGrantIsRead, HeardGrantIsRead, CarriedGrantIsRead}
use Rattle.clean_air.proofs.SpokenWords.{sums_speak, spoken_word_is_only}
use Rattle.clean_air.proofs.Speaking.{scrambled_places_are_heard, carried_places_are_heard}
use Rattle.clean_air.proofs.Placed.{pcfich_placed, candidate_placed}
use Rattle.clean_air.proofs.Subframes.{carried_in_slot}

-- ---- the indicator

pub sent_indicator_is_decoded : SentIndicatorIsDecoded
sent_indicator_is_decoded values indicator low high speak =
    let found = some_indicator values in
    record {
      is = subst (IsIndicator values) (spoken_indicator values indicator found.0 low high speak found.1) found.1;
      only = λ other decoded. spoken_indicator values indicator other low high speak decoded;
    }

pub heard_indicator_is_decoded : HeardIndicatorIsDecoded
unfolding indicator_values_by
heard_indicator_is_decoded slot indicator low high heard = record { speak = speak; decoded = sent_indicator_is_decoded (indicator_values slot) indicator low high speak }
  where
    all : AreHeard 1 (2 * 16) (indicator_bit indicator) (indicator_values slot)
    all = subst (λ n. AreHeard 1 (2 * n) (indicator_bit indicator) (indicator_values slot)) (length-pcfich_places slot.identity)
        (scrambled_places_are_heard (pcfich_c_init slot.identity slot.number) (λ p. slot) (pcfich_places slot.identity) (indicator_bit indicator) heard)

    speak : Speak (indicator_values slot) indicator
    speak i l = supports-speaks (indicator_bit indicator i) (get_or (indicator_values slot) i (pos 0)) (all.value i l)

pub carried_indicator_is_decoded : CarriedIndicatorIsDecoded
carried_indicator_is_decoded grids slot indicator low high heard carry =
    heard_indicator_is_decoded slot indicator low high
    (carried_places_are_heard grids slot (pcfich_places slot.identity) (indicator_scrambled slot indicator) heard (λ k d l. (pcfich_placed slot.identity k d l).1) carry)

-- ---- the grant

pub record HasParts (word bits : List Bool) : Type 0 where
  pub size : length word ≡ 37
  pub message : message_of 16 word ≡ bits

has_parts : (grant : Grant) (check : ℕ) → HasParts (sent_word grant ++ bits_of 16 check) (sent_word grant)
unfolding sent_word
has_parts grant check = record { size = refl; message = refl }

pub grant_parts : (grant : Grant) → HasParts (grant_word grant) (sent_word grant)
grant_parts grant = has_parts grant _

pub sent_grant_is_decoded : SentGrantIsDecoded
sent_grant_is_decoded count candidate grant is enough speak = record {
  word = only;
  passes = passes;
  decoded = decoded;
  only = λ answer other. one_grant count candidate answer (Ok grant) other decoded;
}
  where
    size : length (grant_word grant) ≡ 37
    size = (grant_parts grant).size

    speaks : Speaks (summed 37 candidate) (grant_word grant)
    speaks = subst (λ n. Speaks (summed n candidate) (grant_word grant)) size (sums_speak (grant_word grant) candidate (omega (arith, size)) (omega (arith, size)) speak)

    only : IsOnlyWord (summed 37 candidate) (grant_word grant)
    only = spoken_word_is_only (summed 37 candidate) (grant_word grant) (omega (arith, length-summed 37 candidate)) (size ∙ sym (length-summed 37 candidate)) speaks

    passes : HasCheck16 system_information_rnti (grant_word grant)
    passes = checked_16 system_information_rnti (sent_word grant) (omega arith)

    decoded : Grants count candidate (Ok grant)
    decoded = record {
      word = grant_word grant;
      is = record { enough = enough; least = only.least };
      passes = passes;
      says = subst (λ bits. Carries bits grant) (sym (grant_parts grant).message) (sent_carries grant is).carries;
    }

-- with indicator 2 or 3 there are at least four control channel elements
pub four_elements : (identity indicator : ℕ) (duration : Duration) (resource : Resource) → 2 ≤ indicator → indicator ≤ 3 → 4 ≤ element_count indicator duration resource
four_elements identity indicator duration resource low high =
    enough (group_count indicator duration resource) (subst (λ n. 36 ≤ n) (pdcch_count identity indicator duration resource (omega (arith, low)) high) (pdcch_carry identity indicator duration resource low high).enough)
  where
    enough : (n : ℕ) → 36 ≤ n → 4 ≤ n / 9
    enough n h = omega (arith, h)

pub heard_grant_is_decoded : HeardGrantIsDecoded
unfolding stream_values_by
heard_grant_is_decoded slot indicator duration resource grant low high is heard = record {
  enough = elements;
  speak = speak;
  decoded = sent_grant_is_decoded (element_count indicator duration resource) (candidate_values slot indicator duration resource) grant is elements speak;
}
  where
    carry : CarryCandidate (pdcch_groups slot.identity indicator duration resource)
    carry = pdcch_carry slot.identity indicator duration resource low high

    elements : 4 ≤ element_count indicator duration resource
    elements = four_elements slot.identity indicator duration resource low high

    all : AreHeard 1 (2 * 144) (coded_bit (grant_word grant)) (candidate_values slot indicator duration resource)
    all = subst (λ n. AreHeard 1 (2 * n) (coded_bit (grant_word grant)) (candidate_values slot indicator duration resource))
        (length-candidate_places slot.identity (pdcch_groups slot.identity indicator duration resource) carry.enough carry.are)
        (scrambled_places_are_heard (pdcch_c_init slot.identity slot.number) (λ p. slot) (grant_places slot indicator duration resource) (coded_bit (grant_word grant)) heard)

    speak : SpeakInOrder (grant_word grant) (candidate_values slot indicator duration resource)
    speak = record {
      enough = let size = (grant_parts grant).size in let count = all.size in omega (arith, size, count);
      value = λ i l. all.value i (let count = all.size in omega (arith, l, count));
    }

pub carried_grant_is_decoded : CarriedGrantIsDecoded
carried_grant_is_decoded grids slot indicator duration resource grant low high is heard carry =
    heard_grant_is_decoded slot indicator duration resource grant low high is
    (carried_places_are_heard grids slot (grant_places slot indicator duration resource) (grant_scrambled slot grant) heard
    (λ k d l. (candidate_placed slot.identity indicator duration resource low high k d l).1) carry)

-- ---- the attempt

by_grant : (values : Subframe) (indicator : ℕ) (grant : Grant) → IsOnlyGrant (values.elements indicator) (values.candidate indicator) grant → (found : Option Grant) (answer : Result Sib1 Sib1Reason) →
    Follows values indicator found answer → found ≡ Some grant
by_grant values indicator grant only (Some other) answer follows = ap (λ (r : Result Grant Sib1Reason). result_ok r) (only.only (Ok other) follows.grants)
by_grant values indicator grant only None (Err reason) follows = absurd (none-some grant (ap (λ (r : Result Grant Sib1Reason). result_ok r) (only.only (Err reason) follows)))
by_grant values indicator grant only None (Ok fields) follows = absurd follows

pub spoken_grant_is_read : SpokenGrantIsRead
spoken_grant_is_read values indicator grant speak = record {
  attempt = λ attempt is.
      let same : attempt.cfi ≡ indicator = decoded.only attempt.cfi is.decoded in
      let follows : Follows values indicator attempt.grant attempt.answer = subst (λ i. Follows values i attempt.grant attempt.answer) same is.follows in
      let granted : attempt.grant ≡ Some grant = by_grant values indicator grant only attempt.grant attempt.answer follows in
      let answered : Follows values indicator (Some grant) attempt.answer = subst (λ found. Follows values indicator found attempt.answer) granted follows in
      record { cfi = same; granted = granted; decodes = answered.decodes };
  reads = λ answer decodes. record {
    attempt = record { cfi = indicator; grant = Some grant; answer = answer };
    is = record { decoded = decoded.is; follows = record { grants = only.decoded; decodes = decodes } };
    answers = refl;
  };
}
  where
    decoded : IsOnlyIndicator values.indicator indicator
    decoded = sent_indicator_is_decoded values.indicator indicator speak.range.0 speak.range.1 speak.of_indicator

    only : IsOnlyGrant (values.elements indicator) (values.candidate indicator) grant
    only = sent_grant_is_decoded (values.elements indicator) (values.candidate indicator) grant speak.is_grant speak.enough speak.of_control

-- an attempt returns both if the first slot determines them
decoded_grant_is_read : (first second : SeenSlot) (indicator : ℕ) (duration : Duration) (resource : Resource) (grant : Grant) → 2 ≤ indicator → indicator ≤ 3 → IsGrant grant →
    DecodesIndicator first indicator → DecodesGrant first indicator duration resource grant → IsReadWith (one_port first second duration resource) indicator grant
decoded_grant_is_read first second indicator duration resource grant low high is decoded granted =
    spoken_grant_is_read (one_port first second duration resource) indicator grant
    (record { range = (omega (arith, low), high); is_grant = is; enough = granted.enough; of_indicator = decoded.speak; of_control = granted.speak })

pub heard_grant_is_read : HeardGrantIsRead
heard_grant_is_read first second indicator duration resource grant low high is indicator_heard grant_heard =
    decoded_grant_is_read first second indicator duration resource grant low high is
    (heard_indicator_is_decoded first indicator (omega (arith, low)) high indicator_heard) (heard_grant_is_decoded first indicator duration resource grant low high is grant_heard)

pub carried_grant_is_read : CarriedGrantIsRead
carried_grant_is_read grids first second indicator duration resource grant low high is heard indicator_carried grant_carried =
    decoded_grant_is_read first second indicator duration resource grant low high is
    (carried_indicator_is_decoded grids first indicator (omega (arith, low)) high heard
    (carried_in_slot grids (pcfich_places first.identity) (indicator_scrambled first indicator) (pcfich_placed first.identity) indicator_carried))
    (carried_grant_is_decoded grids first indicator duration resource grant low high is heard
    (carried_in_slot grids (grant_places first indicator duration resource) (grant_scrambled first grant) (candidate_placed first.identity indicator duration resource low high) grant_carried))
