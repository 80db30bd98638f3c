-- The errors of recording `n`, from PCG32: O'Neill's generator with 64-bit state and 32-bit outputs. (own)
use Rattle.std.specs.Prelude.{ℕ, ◌+◌, ◌*◌, ◌%◌, ℤ, pos, ◌-ℤ◌, List, length}
use Rattle.finite.specs.Lists.{values_below}
use Rattle.cs_num.specs.declared.Cpx.{Cpx}
use Rattle.cs_num.specs.declared.Sample.{Sample}
use Rattle.cs_num.specs.Complex.{plus, sample_at, sample_of}
use Rattle.rand_pcg.specs.Lcg.{Lcg, advance, started, increment_of}
use Rattle.rand_pcg.specs.Pcg.{multiplier_64, pcg32}

-- the state of the generator with seed `n` and stream 1, after `words` outputs
abbrev pub generator : ℕ → ℕ → Lcg
generator n words = advance 64 multiplier_64 words (started 64 multiplier_64 n (increment_of 64 1))

-- the output of the generator that follows the first `words` outputs
abbrev pub word : ℕ → ℕ → ℕ
word n words = (pcg32 (generator n words)).0

-- the number from `-bound` to `bound` that one output `word` of the generator gives
abbrev pub drawn : ℕ → ℕ → ℤ
drawn bound word = pos (word % (2 * bound + 1)) -ℤ pos bound

-- the error of sample `i` in recording `n`: two outputs of the generator, the real component first
abbrev pub error : ℕ → ℕ → ℕ → Cpx
error n bound i = record { re = drawn bound (word n (2 * i)); im = drawn bound (word n (2 * i + 1)) }

-- the samples plus the errors of recording `n`
abbrev pub with_errors : ℕ → ℕ → List Sample → List Sample
with_errors n bound samples =
    values_below (length samples) (λ i. sample_of (plus (sample_at samples i) (error n bound i)))
