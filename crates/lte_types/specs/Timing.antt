-- The position at which a recording begins in a cell's frame sequence: a frame number, and a sample within that
-- frame, the offset. (own)
use Rattle.std.specs.Prelude.{◌≡◌, ℕ, ◌+◌, ◌-◌, ◌/◌, ◌%◌, ◌<◌, ◌≤◌, nat_eq, if◌then◌else◌}
use Rattle.lte_types.specs.Numerology.{frame_length}

-- a sample's offset within a frame
abbrev pub IsOffset : ℕ → Type 0
IsOffset offset = offset < frame_length

-- ---- from a recording's position to its first frame start

-- the number of the frame that contains sample `i`, for samples counted from the start of frame `sfn`
abbrev pub number_of : ℕ → ℕ → ℕ
number_of sfn i = (sfn + i / frame_length) % 1024

-- the first sample at which a frame begins, in a recording that begins `offset` samples into a frame
abbrev pub start_of : ℕ → ℕ
start_of offset = (frame_length - offset) % frame_length

-- the number of the first frame that begins in a recording, if the recording begins `offset` samples into frame `sfn`
abbrev pub number_at_start : ℕ → ℕ → ℕ
number_at_start sfn offset = if nat_eq offset 0 then sfn else (sfn + 1) % 1024

-- ---- from the first frame start and its frame number to the recording's position

-- the offset within a frame at which a recording begins, if its first frame start is sample `start`
abbrev pub offset_of : ℕ → ℕ
offset_of start = (frame_length - start) % frame_length

-- the number of the frame in which a recording begins, if frame `number` is the first that begins in the recording, at
-- sample `start`
abbrev pub number_before : ℕ → ℕ → ℕ
number_before start number = if nat_eq start 0 then number else (number + 1023) % 1024

-- ---- the two are inverse

-- a recording's position is restored from its first frame start
abbrev pub TimingsComeBack : Type 0
TimingsComeBack = (sfn offset : ℕ) → sfn ≤ 1023 → IsOffset offset →
    (offset_of (start_of offset) ≡ offset) × (number_before (start_of offset) (number_at_start sfn offset) ≡ sfn)

-- the first frame start and its frame number are restored from the recording's position
abbrev pub StartsComeBack : Type 0
StartsComeBack = (start number : ℕ) → start < frame_length → number ≤ 1023 →
    (start_of (offset_of start) ≡ start) × (number_at_start (number_before start number) (offset_of start) ≡ number)
