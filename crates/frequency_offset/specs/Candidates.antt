-- Candidate offsets, and the selection among them. (own)
use Rattle.std.specs.Prelude.{ℕ, zero, suc, Bool, nat_lt, nat_abs, ℤ, pos, ◌+ℤ◌, ◌-ℤ◌, ◌*ℤ◌, List, [], ◌∷◌, length}
use Rattle.std.specs.Prelude.{filter, Option, option_map, option_to_list}
use Rattle.std.specs.Option.{option_map_or}
use Rattle.finite.specs.Lists.{joined_below}
use Rattle.cs_num.specs.declared.Sample.{Sample}
use Rattle.lte_types.specs.declared.hit.Hit.{Hit}
use Rattle.pss_search.specs.Hits.{hits_of}
use Rattle.frequency_offset.specs.declared.candidate.Candidate.{Candidate}
use Rattle.frequency_offset.specs.Turned.{turned}
use Rattle.frequency_offset.specs.Order.{by_magnitude}
use Rattle.frequency_offset.specs.Fine.{fine_turn}
use Rattle.frequency_offset.specs.Fractions.{fraction_of, greatest}

-- coarse offset `k` in steps of 117.1875 Hz: the multiples of 3.75 kHz, ordered by magnitude
abbrev pub coarse_turn : ℕ → ℤ
coarse_turn k = pos 32 *ℤ by_magnitude k

-- the candidate from `best`, the best hit in `turned`, a recording corrected by coarse offset `k`
abbrev pub candidate_by : List Sample → ℕ → Hit → Candidate
candidate_by turned k best = record {
  coarse = by_magnitude k;
  turn = coarse_turn k +ℤ fine_turn turned best.t;
  hits = length (hits_of turned);
  fraction = fraction_of best;
}

-- `recording` corrected by coarse offset `k`
abbrev pub coarsely_turned : List Sample → ℕ → List Sample
coarsely_turned recording k = turned recording (coarse_turn k)

-- the candidate at coarse offset `k`, if the recording corrected by that offset has a hit
unfoldable pub candidate_at : List Sample → ℕ → Option Candidate
candidate_at recording k =
    option_map (candidate_by (coarsely_turned recording k) k)
    (greatest fraction_of (hits_of (coarsely_turned recording k)))

-- the candidates at the first `count` of the 33 coarse offsets up to 60 kHz, ordered by magnitude
unfoldable pub candidates_below : List Sample → ℕ → List Candidate
candidates_below recording count = joined_below count (λ k. option_to_list (candidate_at recording k))

-- the candidates at all 33 coarse offsets
abbrev pub candidates_of : List Sample → List Candidate
candidates_of recording = candidates_below recording 33

-- whether the offsets of `first` and `second` differ by more than 64 steps (7.5 kHz)
abbrev pub is_far : Candidate → Candidate → Bool
is_far first second = nat_lt 64 (nat_abs (second.turn -ℤ first.turn))

-- at most `n` selected candidates: the candidate with the largest fraction, then the one with the largest fraction
-- among the candidates that are far from every selected one, and so on
unfoldable pub first_taken : ℕ → List Candidate → List Candidate
first_taken zero candidates = []
first_taken (suc n) candidates =
    option_map_or (λ best. best ∷ first_taken n (filter (is_far best) candidates))
    (greatest (λ c. c.fraction) candidates) []

-- the at most four candidates selected in a recording, in order of selection
abbrev pub taken_of : List Sample → List Candidate
taken_of recording = first_taken 4 (candidates_of recording)
