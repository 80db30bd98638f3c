-- Two rows of 256 that are filled with numbers' parts, one after the other.
use Rattle.std.proofs.Common.{◌≡◌, ℕ, ◌+◌, ◌<◌, arith, List, ℤ, pos, length, set, length-set, get_or, ◌∙◌}
use Rattle.std.proofs.lemmas.List.Edits.{fill_by_more}
use Rattle.std.proofs.lemmas.List.FromFn.{fill_by_all}
use Rattle.finite.specs.Lists.{values_below}
use Rattle.cs_num.specs.declared.Cpx.{Cpx}

-- the first n entries hold the parts of f
pub record Filled (f : ℕ → Cpx) (n : ℕ) (re im : List ℤ) : Type 0 where
  pub whole_re : length re ≡ 256
  pub whole_im : length im ≡ 256
  pub each_re : (k : ℕ) → k < n → get_or re k (pos 0) ≡ (f k).re
  pub each_im : (k : ℕ) → k < n → get_or im k (pos 0) ≡ (f k).im

pub filled_none : (f : ℕ → Cpx) (re im : List ℤ) → length re ≡ 256 → length im ≡ 256 → Filled f 0 re im
filled_none f re im a b = record {
  whole_re = a;
  whole_im = b;
  each_re = λ k l. absurd (omega (arith, l));
  each_im = λ k l. absurd (omega (arith, l));
}

pub filled_more : (f : ℕ → Cpx) (n : ℕ) (re im : List ℤ) → Filled f n re im → n < 256 → Filled f (n + 1) (set re n (f n).re) (set im n (f n).im)
filled_more f n re im before l = record {
  whole_re = length-set re n (f n).re ∙ before.whole_re;
  whole_im = length-set im n (f n).im ∙ before.whole_im;
  each_re = fill_by_more (λ k. (f k).re) re n (pos 0) (omega (arith, before.whole_re, l)) before.each_re;
  each_im = fill_by_more (λ k. (f k).im) im n (pos 0) (omega (arith, before.whole_im, l)) before.each_im;
}

pub filled_re : (f : ℕ → Cpx) (re im : List ℤ) → Filled f 256 re im → re ≡ values_below 256 (λ n. (f n).re)
filled_re f re im all = fill_by_all (λ n. (f n).re) re 256 (pos 0) all.whole_re all.each_re

pub filled_im : (f : ℕ → Cpx) (re im : List ℤ) → Filled f 256 re im → im ≡ values_below 256 (λ n. (f n).im)
filled_im f re im all = fill_by_all (λ n. (f n).im) im 256 (pos 0) all.whole_im all.each_im
