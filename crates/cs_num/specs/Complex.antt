-- Complex integers with the ring operations.
use Rattle.std.specs.Prelude.{List, slice_index_or, ℕ, ◌+◌, ◌*◌, ◌≤◌, ℤ, pos, ◌+ℤ◌, ◌-ℤ◌, ◌*ℤ◌, neg_ℤ, nat_abs, max}
use Rattle.cs_num.specs.declared.Cpx.{Cpx}
use Rattle.cs_num.specs.declared.Sample.{Sample}

-- zero
abbrev pub nothing : Cpx
nothing = record { re = pos 0; im = pos 0 }

-- the sum
abbrev pub plus : Cpx → Cpx → Cpx
plus a b = record { re = a.re +ℤ b.re; im = a.im +ℤ b.im }

-- the difference
abbrev pub minus : Cpx → Cpx → Cpx
minus a b = record { re = a.re -ℤ b.re; im = a.im -ℤ b.im }

-- the product of `a` and the natural number `n`
abbrev pub multiple : ℕ → Cpx → Cpx
multiple n a = record { re = pos n *ℤ a.re; im = pos n *ℤ a.im }

-- the product of `a` and the integer `n`
abbrev pub scaled : ℤ → Cpx → Cpx
scaled n a = record { re = n *ℤ a.re; im = n *ℤ a.im }

-- the product
abbrev pub times : Cpx → Cpx → Cpx
times a b = record { re = a.re *ℤ b.re -ℤ a.im *ℤ b.im; im = a.re *ℤ b.im +ℤ a.im *ℤ b.re }

-- the product of j and `a`
abbrev pub times_j : Cpx → Cpx
times_j a = record { re = neg_ℤ a.im; im = a.re }

-- the product of -j and `a`
abbrev pub times_minus_j : Cpx → Cpx
times_minus_j a = record { re = a.im; im = neg_ℤ a.re }

-- the negation
abbrev pub negated : Cpx → Cpx
negated a = record { re = neg_ℤ a.re; im = neg_ℤ a.im }

-- the conjugate
abbrev pub conjugate : Cpx → Cpx
conjugate a = record { re = a.re; im = neg_ℤ a.im }

-- the squared magnitude
abbrev pub square : Cpx → ℕ
square a = nat_abs a.re * nat_abs a.re + nat_abs a.im * nat_abs a.im

-- the maximum of the components' magnitudes
abbrev pub largest_part : Cpx → ℕ
largest_part a = max (nat_abs a.re) (nat_abs a.im)

-- both components of `a` have magnitude at most `bound`
pub record IsWithin (bound : ℕ) (a : Cpx) : Type 0 where
  pub re : nat_abs a.re ≤ bound
  pub im : nat_abs a.im ≤ bound

-- a sample as a complex integer
abbrev pub value_of : Sample → Cpx
value_of s = record { re = s.re; im = s.im }

-- a complex integer as a sample
abbrev pub sample_of : Cpx → Sample
sample_of z = record { re = z.re; im = z.im }

-- the sample 0
abbrev pub silence : Sample
silence = record { re = pos 0; im = pos 0 }

-- sample `i` of `samples`, or 0 past the end of the list
abbrev pub sample_at : List Sample → ℕ → Cpx
sample_at samples i = value_of (slice_index_or samples i silence)

-- the number at index `k` of `values`, or 0 past the end of the list
abbrev pub value_at : List Cpx → ℕ → Cpx
value_at values k = slice_index_or values k nothing
