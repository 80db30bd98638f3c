-- Laws of detection: it is the best pair, few samples decide it, and how rarely signs match by coincidence. (own)
use Rattle.std.specs.Prelude.{◌≡◌, ◌↔◌, ℕ, ◌*◌, ◌^◌, ◌≤◌, List, length, ℤ, Some}
use Rattle.cs_num.specs.declared.Sample.{Sample}
use Rattle.sample_file.specs.Recording.{AgreeBefore}
use Rattle.accumulated_sss.specs.declared.detecting.Detection.{Detection}
use Rattle.accumulated_sss.specs.Signs.{last_end}
use Rattle.accumulated_sss.specs.Detection.{IsDetection, detection_at}
use Rattle.accumulated_sss.specs.Patterns.{AreSigns, all_patterns, coincidences}

-- ---- detections

-- a law: `detection_at` returns exactly the detection, if there is one
abbrev pub DetectionIsRight : Type 0
DetectionIsRight = (recording : List Sample) (halves t n2 : ℕ) (found : Detection) →
    (detection_at recording halves t n2 ≡ Some found) ↔ IsDetection recording halves t n2 found

-- a law: a candidate has at most one detection
abbrev pub OnlyOneDetection : Type 0
OnlyOneDetection = (recording : List Sample) (halves t n2 : ℕ) (first second : Detection) →
    IsDetection recording halves t n2 first → IsDetection recording halves t n2 second → first ≡ second

-- a law: recordings that agree up to the end of the last primary symbol have equal detections
abbrev pub FirstSamplesDecide : Type 0
FirstSamplesDecide = (a b : List Sample) (halves t n2 : ℕ) → AgreeBefore (last_end halves t) a b →
    detection_at a halves t n2 ≡ detection_at b halves t n2

-- ---- coincidences

-- a law: there are 2^n patterns of n signs
abbrev pub PatternsAreAll : Type 0
PatternsAreAll = (n : ℕ) → length (all_patterns n) ≡ 2 ^ n

-- how many patterns of 124 signs match given ones in at least 93 positions: the sum of the binomial coefficients of 124
-- from 93 to 124
abbrev pub coincidence_count : ℕ
coincidence_count = 234004971861876424919930303080

-- a law: whatever 124 signs are given, this many patterns match them in at least 93 positions
abbrev pub CoincidencesAreCounted : Type 0
CoincidencesAreCounted = (signs : ℕ → ℤ) → AreSigns 124 signs → coincidences 124 93 signs ≡ coincidence_count

-- a law: not more patterns match if some of the given signs are 0
abbrev pub CoincidencesAreFew : Type 0
CoincidencesAreFew = (signs : ℕ → ℤ) → coincidences 124 93 signs ≤ coincidence_count

-- a law: 64,512 times this number, for 192 candidates with 336 pairs each, is at most one 1,400th of all patterns
abbrev pub CoincidencesAreRare : Type 0
CoincidencesAreRare = 64512 * 1400 * coincidence_count ≤ 2 ^ 124
