-- The channel at every subcarrier, by linear interpolation between equally spaced pilots. (own)
use Rattle.std.specs.Prelude.{ℕ, ◌+◌, ◌-◌, ◌*◌, ◌/◌, ◌%◌, nat_lt, if◌then◌else◌}
use Rattle.cs_num.specs.declared.Cpx.{Cpx}
use Rattle.cs_num.specs.Complex.{plus, multiple}

-- ---- any distance

-- the subcarrier of pilot i, if pilots are `step` subcarriers apart and pilot 0 is at subcarrier `shift`
abbrev pub place_by : ℕ → ℕ → ℕ → ℕ
place_by step shift i = shift + step * i

-- the channel r subcarriers after pilot i, linearly interpolated to the next pilot and multiplied by `step`
abbrev pub between_by : ℕ → (ℕ → Cpx) → ℕ → ℕ → Cpx
between_by step pilots i r = plus (multiple (step - r) (pilots i)) (multiple r (pilots (i + 1)))

-- the channel at subcarrier k, times `step`: the first pilot's value below its subcarrier, the last pilot's value from
-- its subcarrier on, and linear interpolation in between
abbrev pub line_by : ℕ → ℕ → (ℕ → Cpx) → ℕ → ℕ → Cpx
line_by step last pilots shift k =
    if nat_lt k (place_by step shift 0) then multiple step (pilots 0)
    else (if nat_lt k (place_by step shift last) then between_by step pilots ((k - shift) / step) ((k - shift) % step)
    else multiple step (pilots last))

-- ---- 24 pilots: the reference elements in two symbols together are at every third subcarrier

-- the subcarrier of pilot i of 24, if pilot 0 is at subcarrier `shift`
abbrev pub pilot_place : ℕ → ℕ → ℕ
pilot_place shift i = place_by 3 shift i

-- the channel r subcarriers after pilot i of 24, linearly interpolated to the next pilot and multiplied by 3
abbrev pub between : (ℕ → Cpx) → ℕ → ℕ → Cpx
between pilots i r = between_by 3 pilots i r

-- the channel at subcarrier k from 24 pilots, times 3
abbrev pub estimate : (ℕ → Cpx) → ℕ → ℕ → Cpx
estimate pilots shift k = line_by 3 23 pilots shift k
