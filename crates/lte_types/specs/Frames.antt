-- Consecutive frames of a cell in one period of four, in which the MIB does not change (TS 36.331 section 5.2.1.2).
-- (own)
use Rattle.std.specs.Prelude.{ℕ, ◌+◌, ◌-◌, ◌*◌, ◌%◌, ◌≤◌}

-- consecutive frames: their number, the index of the first frame, counted from the cell's first, and the position of
-- the first frame in its period
pub record Frames : Type 0 where
  pub count : ℕ
  pub first : ℕ
  pub phase : ℕ

-- `count` frames from frame `j`, whose position in its period is `phase`
abbrev pub frames_from : ℕ → ℕ → ℕ → Frames
frames_from count j phase = record { count = count; first = j; phase = phase }

-- 1 to 4 frames of one period, all among the cell's first eight
pub record AreFrames (frames : Frames) : Type 0 where
  pub some : 1 ≤ frames.count
  pub period : frames.phase + frames.count ≤ 4
  pub known : frames.first + frames.count ≤ 8

-- the frame number of the cell's first frame: 4 * upper + phase is the number of the first frame in `frames`, which is
-- `frames.first` frames later, modulo 1,024; `upper` is the MIB's upper eight bits of the frame number
abbrev pub first_number : ℕ → Frames → ℕ
first_number upper frames = (4 * upper + frames.phase + (1024 - frames.first)) % 1024
