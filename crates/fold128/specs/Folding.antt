-- Folding 128 samples to 32 quartets, and the quartets to 17 combined terms. A quarter period of W multiplies by j, so
-- four samples at distance 32 combine to one number per frequency residue modulo 4. Reversing W conjugates it, so the
-- indices m and 32 - m share its real and imaginary parts. Synthesis runs the other way. (own)
use Rattle.std.specs.Prelude.{ℕ, zero, suc, ◌+◌, ◌-◌, ◌*◌, ◌%◌, ◌+ℤ◌, ◌*ℤ◌, List, slice_index_or, nat_eq, if◌then◌else◌}
use Rattle.cs_num.specs.declared.Cpx.{Cpx}
use Rattle.cs_num.specs.Complex.{IsWithin, nothing, plus, minus, times, times_j, times_minus_j, conjugate}
use Rattle.finite.specs.Lists.{values_below}
use Rattle.fold128.specs.declared.quartet.Quartet.{Quartet}
use Rattle.fold128.specs.declared.spectrum.Mirror.{Mirror}
use Rattle.fold128.specs.Tables.{w_at}

-- the product of z and (-j) ^ q
unfoldable pub back_by : ℕ → Cpx → Cpx
back_by zero z = z
back_by (suc q) z = back_by q (times_minus_j z)

-- the contribution of the samples a, b, c and d, at distance 32, to the frequencies with residue `r` modulo 4
unfoldable pub seen_of_four : ℕ → Cpx → Cpx → Cpx → Cpx → Cpx
seen_of_four r a b c d = plus a (plus (back_by r b) (plus (back_by (2 * r) c) (back_by (3 * r) d)))

-- the contributions of the samples a, b, c and d, at distance 32, one per frequency residue modulo 4
abbrev pub quartet_of : Cpx → Cpx → Cpx → Cpx → Quartet
quartet_of a b c d = record {
  zero = seen_of_four 0 a b c d;
  one = seen_of_four 1 a b c d;
  two = seen_of_four 2 a b c d;
  three = seen_of_four 3 a b c d;
}

-- the quartet at index `m`, from the samples m, m + 32, m + 64 and m + 96
abbrev pub quartet_at : (ℕ → Cpx) → ℕ → Quartet
quartet_at samples m = quartet_of (samples m) (samples (m + 32)) (samples (m + 64)) (samples (m + 96))

-- the number in the quartet `q` for the frequency residue `r`, 0 to 3
abbrev pub taken : Quartet → ℕ → Cpx
taken q r = if nat_eq r 0 then q.zero else if nat_eq r 1 then q.one else if nat_eq r 2 then q.two else q.three

-- the quartets of 128 samples, at the indices 0 to 31
unfoldable pub folded_places : (ℕ → Cpx) → List Quartet
folded_places samples = values_below 32 (quartet_at samples)

-- the quartet of four zeros
abbrev pub empty_quartet : Quartet
empty_quartet = record { zero = nothing; one = nothing; two = nothing; three = nothing }

-- the contribution of the quartet at index `m` to the DFT at `frequency`
abbrev pub folded_term : List Quartet → ℕ → ℕ → Cpx
folded_term folded frequency m =
    times (taken (slice_index_or folded m empty_quartet) (frequency % 4)) (conjugate (w_at (frequency * m)))

-- every component in the quartet `q` has magnitude at most `bound`
pub record AreWithin (bound : ℕ) (q : Quartet) : Type 0 where
  pub zero : IsWithin bound q.zero
  pub one : IsWithin bound q.one
  pub two : IsWithin bound q.two
  pub three : IsWithin bound q.three

-- ---- the indices m and 32 - m combined

-- the number opposite index `m` for residue `r`: that at index 32 - m with its phase corrected, or 0 for the indices 0
-- and 16
abbrev pub opposite : List Quartet → ℕ → ℕ → Cpx
opposite folded r m =
    if nat_eq (m % 16) 0 then nothing else back_by r (taken (slice_index_or folded (32 - m) empty_quartet) r)

-- the factors that multiply W's real and imaginary part in the joint contribution of the indices `m` and 32 - m to
-- residue `r`
abbrev pub mirror_at : List Quartet → ℕ → ℕ → Mirror
mirror_at folded r m = record {
  real = plus (taken (slice_index_or folded m empty_quartet) r) (opposite folded r m);
  imaginary = times_minus_j (minus (taken (slice_index_or folded m empty_quartet) r) (opposite folded r m));
}

-- the combined term with zero factors
abbrev pub empty_mirror : Mirror
empty_mirror = record { real = nothing; imaginary = nothing }

-- the combined terms for residue `r`, one per index 0 to 16
unfoldable pub mirrors : List Quartet → ℕ → List Mirror
mirrors folded r = values_below 17 (mirror_at folded r)

-- the joint contribution of the indices m and 32 - m, from their combined term `p` and W's value `w` at index m
abbrev pub mirrored : Mirror → Cpx → Cpx
mirrored p w = record {
  re = p.real.re *ℤ w.re +ℤ p.imaginary.re *ℤ w.im;
  im = p.real.im *ℤ w.re +ℤ p.imaginary.im *ℤ w.im;
}

-- the contribution of the combined term at index `m` to the DFT at `frequency`
abbrev pub mirrored_term : List Mirror → ℕ → ℕ → Cpx
mirrored_term row frequency m = mirrored (slice_index_or row m empty_mirror) (w_at (frequency * m))

-- the components of both factors in the combined term `p` have magnitude at most 2^18
pub record IsSmallMirror (p : Mirror) : Type 0 where
  pub real : IsWithin 262144 p.real
  pub imaginary : IsWithin 262144 p.imaginary

-- ---- synthesis

-- the product of z and j ^ q
unfoldable pub forward_by : ℕ → Cpx → Cpx
forward_by zero z = z
forward_by (suc q) z = forward_by q (times_j z)

-- the sample of quarter `q` that the quartet `p` gives: the sum of the contributions of all residues
unfoldable pub given_at : ℕ → Quartet → Cpx
given_at q p = plus p.zero (plus (forward_by q p.one) (plus (forward_by (2 * q) p.two) (forward_by (3 * q) p.three)))

-- the four samples, at distance 32, that the quartet `p` gives, one per quarter of the symbol
abbrev pub unfolded : Quartet → Quartet
unfolded p = record { zero = given_at 0 p; one = given_at 1 p; two = given_at 2 p; three = given_at 3 p }

-- the quartet `p` with `z` added to its number for residue `r`
abbrev pub added : Quartet → ℕ → Cpx → Quartet
added p r z = record {
  zero = if nat_eq r 0 then plus p.zero z else p.zero;
  one = if nat_eq r 1 then plus p.one z else p.one;
  two = if nat_eq r 2 then plus p.two z else p.two;
  three = if nat_eq r 3 then plus p.three z else p.three;
}
