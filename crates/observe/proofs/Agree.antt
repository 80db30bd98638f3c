-- Recordings that agree in a symbol's samples have the same values for the symbol.
use Rattle.std.proofs.Common.{◌≡◌, ℕ, ◌+◌, ◌*◌, ◌≤◌, List, arith, ap}
use Rattle.finite.proofs.Lists.{values_below_same}
use Rattle.cs_num.specs.declared.Sample.{Sample}
use Rattle.cs_num.specs.Complex.{times, conjugate, sample_at}
use Rattle.cs_num.specs.Rounding.{rounded}
use Rattle.cs_num.proofs.Sums.{complex_sum_below_same}
use Rattle.fold128.specs.Tables.{w_at}
use Rattle.fold128.specs.Symbol.{frequency}
use Rattle.fold128.specs.Spectrum.{spectrum_at, spectrum_term}
use Rattle.sample_file.specs.Recording.{AgreeBefore}
use Rattle.sample_file.proofs.Agree.{sample_agrees}
use Rattle.observe.specs.Seen.{seen, seen_symbol}

pub seen_agrees : (count start : ℕ) (a b : List Sample) → AgreeBefore count a b → start + 128 ≤ count → (k : ℕ) → seen a start k ≡ seen b start k
unfolding seen spectrum_at
seen_agrees count start a b agree within k = ap (λ z. rounded z 12)
    (complex_sum_below_same 128 (spectrum_term (λ n. sample_at a (start + n)) k) (spectrum_term (λ n. sample_at b (start + n)) k)
    (λ n l. ap (λ s. times s (conjugate (w_at (frequency k * n)))) (sample_agrees count (start + n) a b agree (omega (arith, within, l)))))

pub symbol_agrees : (count start : ℕ) (a b : List Sample) → AgreeBefore count a b → start + 128 ≤ count → seen_symbol a start ≡ seen_symbol b start
unfolding seen_symbol
symbol_agrees count start a b agree within = values_below_same 72 (seen a start) (seen b start) (λ k _. seen_agrees count start a b agree within k)
