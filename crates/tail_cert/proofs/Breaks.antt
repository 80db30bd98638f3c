-- Format errors of a certificate.
use Rattle.std.proofs.Common.{◌≡◌, ℕ, ◌+◌, ◌*◌, ◌<◌, ◌≤◌, ◌++◌, ◌⊎◌, min, inl, inr, Bool, cond, List, length, take, drop, get_or, refl, ap, arith}
use Rattle.std.specs.Prelude.{nat_abs}
use Rattle.std.proofs.Math.Seq.{take-add}
use Rattle.std.proofs.lemmas.Bool.{cases_lt}
use Rattle.std.proofs.lemmas.Bool.Decides.{eqb_tells}
use Rattle.std.proofs.lemmas.List.{ext_get_or, length-take-le, get_or-take, take-append-drop}
use Rattle.finite.specs.Sums.{total_below}
use Rattle.finite.proofs.Sums.{total_below_same}
use Rattle.tail_cert.specs.Form.{BreaksUpTo, IsFirstBreakUpTo, IsLargeValue, IsOffMark, IsUnbrokenUpTo, count_of, head_count, mark, table_count, tells_table, value_at}
use Rattle.tail_cert.specs.Stored.{has_table}

-- past the values or the end of the bytes, the only format error is an early end
pub only_end : (count : ℕ) (bytes : List ℕ) (p : ℕ) → min (length bytes) 244 ≤ p → BreaksUpTo count bytes p → (p ≡ length bytes) × (p < count)
only_end count bytes p past (inl (four, there, off)) = absurd (omega (arith, past, four, there))
only_end count bytes p past (inr (inl (low, high, even, room, large))) = absurd (omega (arith, past, high, room))
only_end count bytes p past (inr (inr end)) = end

-- before the end of the bytes, a format error is in the mark or in a value
pub before_end : (count : ℕ) (bytes : List ℕ) (p : ℕ) → p < length bytes → BreaksUpTo count bytes p → IsOffMark bytes p ⊎ IsLargeValue bytes p
before_end count bytes p inside (inl off) = inl off
before_end count bytes p inside (inr (inl large)) = inr large
before_end count bytes p inside (inr (inr (end, early))) = absurd (omega (arith, inside, end))

pub of_spoiled : (count : ℕ) (bytes : List ℕ) (p : ℕ) → IsOffMark bytes p ⊎ IsLargeValue bytes p → BreaksUpTo count bytes p
of_spoiled count bytes p (inl off) = inl off
of_spoiled count bytes p (inr large) = inr (inl large)

-- no format error lies past the end of the bytes
pub none_past : (count : ℕ) (bytes : List ℕ) (p : ℕ) → BreaksUpTo count bytes p → p ≤ length bytes
none_past count bytes p (inl (four, there, off)) = omega (arith, there)
none_past count bytes p (inr (inl (low, high, even, room, large))) = omega (arith, room)
none_past count bytes p (inr (inr (end, early))) = omega (arith, end)

-- the first format error is unique
pub one_first : (count : ℕ) (bytes : List ℕ) (p q : ℕ) → IsFirstBreakUpTo count bytes p → IsFirstBreakUpTo count bytes q → p ≡ q
one_first count bytes p q first other = elim (cases_lt p q) [
  | inl a ↦ absurd (other.before p a first.here)
  | inr b ↦ elim (cases_lt q p) [
    | inl c ↦ absurd (first.before q c other.here)
    | inr d ↦ omega (arith, b, d)
  ]
]

-- if the mark and the values have no error and the bytes are too few, the first error is their end
pub end_first : (count : ℕ) (bytes : List ℕ) → ((q : ℕ) → q < min (length bytes) 244 → BreaksUpTo count bytes q → ⊥) → length bytes < count →
    IsFirstBreakUpTo count bytes (length bytes)
end_first count bytes none early = record {
  here = inr (inr (refl, early));
  before = λ q l b. elim (cases_lt q (min (length bytes) 244)) [
    | inl front ↦ none q front b
    | inr past ↦ let e = (only_end count bytes q past b).0 in omega (arith, e, l)
  ];
}

-- if the mark and the values have no error and the bytes are long enough, there is no error
pub unbroken : (count : ℕ) (bytes : List ℕ) → ((q : ℕ) → q < min (length bytes) 244 → BreaksUpTo count bytes q → ⊥) → count ≤ length bytes → IsUnbrokenUpTo count bytes
unbroken count bytes none long p b = elim (cases_lt p (min (length bytes) 244)) [
  | inl front ↦ none p front b
  | inr past ↦ let e = only_end count bytes p past b in omega (arith, e.0, e.1, long)
]

-- ---- more bytes

longer : (n m : ℕ) (bytes : List ℕ) (p : ℕ) → n ≤ m → BreaksUpTo n bytes p → BreaksUpTo m bytes p
longer n m bytes p few (inl off) = inl off
longer n m bytes p few (inr (inl large)) = inr (inl large)
longer n m bytes p few (inr (inr (end, early))) = inr (inr (end, omega (arith, early, few)))

-- the first error within n bytes is also the first within more
pub first_more : (n m : ℕ) (bytes : List ℕ) (p : ℕ) → n ≤ m → IsFirstBreakUpTo n bytes p → IsFirstBreakUpTo m bytes p
first_more n m bytes p few first = record {
  here = longer n m bytes p few first.here;
  before = λ q l b.
      let inside = none_past n bytes p first.here in
      first.before q l (of_spoiled n bytes q (before_end m bytes q (omega (arith, l, inside)) b));
}

-- bytes without an error within `count` are at least that many; within a larger count, the only error is their end
pub long_enough : (count : ℕ) (bytes : List ℕ) → IsUnbrokenUpTo count bytes → count ≤ length bytes
long_enough count bytes h = elim (cases_lt (length bytes) count) [
  | inl early ↦ absurd (h (length bytes) (inr (inr (refl, early))))
  | inr all ↦ all
]

pub none_in_front : (n m : ℕ) (bytes : List ℕ) → IsUnbrokenUpTo n bytes → (q : ℕ) → q < min (length bytes) 244 → BreaksUpTo m bytes q → ⊥
none_in_front n m bytes h q front b = h q (of_spoiled n bytes q (before_end m bytes q (omega (arith, front)) b))

pub count_least : (bytes : List ℕ) → head_count ≤ count_of bytes
unfolding count_of
count_least bytes = omega arith

-- ---- consequences of a correct format

pub small_values : (count : ℕ) (bytes : List ℕ) → IsUnbrokenUpTo count bytes → 244 ≤ length bytes → (j : ℕ) → j < 120 → nat_abs (value_at bytes (4 + 2 * j)) ≤ 2032
small_values count bytes h size j below = elim (cases_lt 2032 (nat_abs (value_at bytes (4 + 2 * j)))) [
  | inl large ↦ absurd (h (4 + 2 * j) (inr (inl (omega arith, omega arith, omega arith, omega (arith, size), large))))
  | inr small ↦ small
]

pub mark_there : (count : ℕ) (bytes : List ℕ) → IsUnbrokenUpTo count bytes → 4 ≤ length bytes → take 4 bytes ≡ mark
mark_there count bytes h size = ext_get_or 0 (take 4 bytes) mark (length-take-le 4 bytes size) (λ i inside.
    let four : length (take 4 bytes) ≡ 4 = length-take-le 4 bytes size in
    rw (get_or-take 4 bytes i 0 (omega (arith, inside, four)))
    (elim (eqb_tells (get_or bytes i 0) (get_or mark i 0)) [
      | inl (t, same) ↦ same
      | inr (f, other) ↦ absurd (h i (inl (omega (arith, inside, four), omega (arith, inside, four, size), other)))
    ]))

-- the bytes, split into seven parts
pub seven_parts : (bytes : List ℕ) (a b c d e f : ℕ) →
    take a bytes ++ take b (drop a bytes) ++ take c (drop (a + b) bytes) ++ take d (drop (a + b + c) bytes) ++ take e (drop (a + b + c + d) bytes)
    ++ take f (drop (a + b + c + d + e) bytes) ++ drop (a + b + c + d + e + f) bytes ≡ bytes
seven_parts bytes a b c d e f =
    rw (← take-add a b bytes, ← take-add (a + b) c bytes, ← take-add (a + b + c) d bytes, ← take-add (a + b + c + d) e bytes, ← take-add (a + b + c + d + e) f bytes)
    (take-append-drop (a + b + c + d + e + f) bytes)

-- a set that was read gives the length of the certificate
pub count_by_set : (bytes : List ℕ) (set : List Bool) → ((s : ℕ) → s < 64 → has_table set s ≡ tells_table bytes s) →
    head_count + table_count * total_below 64 (λ s. cond (has_table set s) 1 0) ≡ count_of bytes
unfolding count_of
count_by_set bytes set states =
    ap (λ n. head_count + table_count * n) (total_below_same 64 (λ s. cond (has_table set s) 1 0) (λ s. cond (tells_table bytes s) 1 0) (λ s below. ap {B = ℕ} (λ b. cond b 1 0) (states s below)))

-- if a whole certificate has no format error, its first bytes have none
pub head_unbroken : (bytes : List ℕ) → IsUnbrokenUpTo (count_of bytes) bytes → IsUnbrokenUpTo head_count bytes
head_unbroken bytes h p b = h p (longer head_count (count_of bytes) bytes p (count_least bytes) b)
