-- Codes and names of the fields in MIB and SIB1 (TS 36.331 sections 6.2.2 and 6.3.2).
use Rattle.std.specs.Prelude.{ℕ, nat_eq, if◌then◌else◌, Option, Some, None, List, [], ◌∷◌, codes}
use Rattle.std.specs.Prelude.{bytes_eq, slice_index_or}
use Rattle.std.specs.List.{position}
use Rattle.lte_types.specs.declared.bandwidth.Bandwidth.{Bandwidth}
use Rattle.lte_types.specs.declared.bandwidth.Bandwidth.TheVariants.{N6, N15, N25, N50, N75, N100}
use Rattle.lte_types.specs.declared.duration.Duration.{Duration}
use Rattle.lte_types.specs.declared.duration.Duration.TheVariants.{Normal, Extended}
use Rattle.lte_types.specs.declared.resource.Resource.{Resource}
use Rattle.lte_types.specs.declared.resource.Resource.TheVariants.{OneSixth, Half, One, Two}

-- ---- dl-Bandwidth (section 6.2.2)

-- the bandwidth with dl-Bandwidth code `code`, 0 to 5
abbrev pub bandwidth : ℕ → Bandwidth
bandwidth code = slice_index_or (N6 ∷ N15 ∷ N25 ∷ N50 ∷ N75 ∷ N100 ∷ []) code N6

-- a bandwidth's dl-Bandwidth code
abbrev pub bandwidth_code : Bandwidth → ℕ
bandwidth_code N6 = 0
bandwidth_code N15 = 1
bandwidth_code N25 = 2
bandwidth_code N50 = 3
bandwidth_code N75 = 4
bandwidth_code N100 = 5

-- a bandwidth's name in the standard, as character codes
abbrev pub bandwidth_word : Bandwidth → List ℕ
bandwidth_word N6 = codes "n6"
bandwidth_word N15 = codes "n15"
bandwidth_word N25 = codes "n25"
bandwidth_word N50 = codes "n50"
bandwidth_word N75 = codes "n75"
bandwidth_word N100 = codes "n100"

-- ---- phich-Duration (section 6.3.2, PHICH-Config)

-- the PHICH duration with phich-Duration code `code`, 0 or 1
abbrev pub duration : ℕ → Duration
duration code = slice_index_or (Normal ∷ Extended ∷ []) code Normal

-- a PHICH duration's phich-Duration code
abbrev pub duration_code : Duration → ℕ
duration_code Normal = 0
duration_code Extended = 1

-- a PHICH duration's name in the standard, as character codes
abbrev pub duration_word : Duration → List ℕ
duration_word Normal = codes "normal"
duration_word Extended = codes "extended"

-- the PHICH duration with the standard's name `name`, if there is one
abbrev pub duration_named : List ℕ → Option Duration
duration_named name =
    if bytes_eq name (duration_word Normal) then Some Normal
    else (if bytes_eq name (duration_word Extended) then Some Extended
    else None)

-- ---- phich-Resource, Ng (section 6.3.2, PHICH-Config)

-- the PHICH resource with phich-Resource code `code`, 0 to 3
abbrev pub resource : ℕ → Resource
resource code = slice_index_or (OneSixth ∷ Half ∷ One ∷ Two ∷ []) code OneSixth

-- a PHICH resource's phich-Resource code
abbrev pub resource_code : Resource → ℕ
resource_code OneSixth = 0
resource_code Half = 1
resource_code One = 2
resource_code Two = 3

-- a PHICH resource's name in the standard, as character codes
abbrev pub resource_word : Resource → List ℕ
resource_word OneSixth = codes "oneSixth"
resource_word Half = codes "half"
resource_word One = codes "one"
resource_word Two = codes "two"

-- the PHICH resource with the standard's name `name`, if there is one
abbrev pub resource_named : List ℕ → Option Resource
resource_named name =
    if bytes_eq name (resource_word OneSixth) then Some OneSixth
    else (if bytes_eq name (resource_word Half) then Some Half
    else (if bytes_eq name (resource_word One) then Some One
    else (if bytes_eq name (resource_word Two) then Some Two
    else None)))

-- ---- si-WindowLength (section 6.2.2)

-- the SI window lengths in milliseconds, in the order of their codes
abbrev pub windows : List ℕ
windows = 1 ∷ 2 ∷ 5 ∷ 10 ∷ 15 ∷ 20 ∷ 40 ∷ []

-- the length in milliseconds of the SI window with code `code`, 0 to 6
abbrev pub window_length : ℕ → ℕ
window_length code = slice_index_or windows code 1

-- the standard's name for the SI window with code `code`, 0 to 6
abbrev pub window_word : ℕ → List ℕ
window_word code =
    slice_index_or (codes "ms1" ∷ codes "ms2" ∷ codes "ms5" ∷ codes "ms10" ∷ codes "ms15" ∷ codes "ms20"
    ∷ codes "ms40" ∷ []) code (codes "ms1")

-- the code of an SI window of `milliseconds`, if the standard has one
abbrev pub window_of : ℕ → Option ℕ
window_of milliseconds = position (nat_eq milliseconds) windows

-- ---- si-Periodicity (section 6.2.2)

-- the SI periods in frames, in the order of their codes
abbrev pub periods : List ℕ
periods = 8 ∷ 16 ∷ 32 ∷ 64 ∷ 128 ∷ 256 ∷ 512 ∷ []

-- the length in frames of the SI period with code `code`, 0 to 6
abbrev pub period_frames : ℕ → ℕ
period_frames code = slice_index_or periods code 8

-- the standard's name for the SI period with code `code`, 0 to 6
abbrev pub period_word : ℕ → List ℕ
period_word code =
    slice_index_or (codes "rf8" ∷ codes "rf16" ∷ codes "rf32" ∷ codes "rf64" ∷ codes "rf128" ∷ codes "rf256"
    ∷ codes "rf512" ∷ []) code (codes "rf8")

-- the code of an SI period of `frames` frames, if the standard has one
abbrev pub period_of : ℕ → Option ℕ
period_of frames = position (nat_eq frames) periods
