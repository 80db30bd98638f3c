-- The steps of the code: the filter with symmetric taps added first.
use Rattle.std.specs.Prelude.{ℤ, pos, ◌+ℤ◌, ◌-ℤ◌, ◌*ℤ◌}
use Rattle.cs_num.specs.declared.Cpx.{Cpx}

-- the filter's sum from its middle sample, and from the sums of the samples at distances 1, 3, 5 and 7 from the middle
abbrev pub folded_part : ℤ → ℤ → ℤ → ℤ → ℤ → ℤ
folded_part middle first third fifth seventh =
    pos 2052 *ℤ middle +ℤ pos 1257 *ℤ first -ℤ pos 311 *ℤ third +ℤ pos 97 *ℤ fifth -ℤ pos 21 *ℤ seventh

abbrev pub folded_sum : Cpx → Cpx → Cpx → Cpx → Cpx → Cpx
folded_sum middle first third fifth seventh = record {
  re = folded_part middle.re first.re third.re fifth.re seventh.re;
  im = folded_part middle.im first.im third.im fifth.im seventh.im;
}
