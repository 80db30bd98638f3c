-- Format errors in bytes and in their continuations.
use Rattle.std.proofs.Common.{◌≡◌, ℕ, ◌+◌, ◌<◌, ◌≤◌, ◌⊎◌, inl, inr, List, ◌++◌, length, take, drop, get_or, min, take_all, refl, sym, ap, subst, ◌∙◌, arith, length-append, length-take}
use Rattle.std.proofs.lemmas.List.{get_or-drop, get_or_append_left, take-append-drop}
use Rattle.std.proofs.lemmas.Bool.{cases_lt}
use Rattle.cs_outside.specs.Outside.{SourceState}
use Rattle.cs_outside.specs.Streams.{HasReadOn}
use Rattle.tail_cert.specs.Certificate.{Held, IsWhole}
use Rattle.tail_cert.specs.Form.{bytes_of, value_at, BreaksUpTo, Breaks, IsFirstBreak, IsFirstBreakUpTo, IsUnbrokenUpTo, count_of, head_count}
use Rattle.tail_cert.proofs.Breaks.{before_end, count_least, long_enough, of_spoiled}
use Rattle.tail_cert.proofs.Codes.{length-bytes_of}
use Rattle.tail_cert.proofs.Whole.{count_longer, count_of_front, count_whole, whole_unbroken}
use Rattle.certificates.specs.Reading.{IsAim, IsSound}

-- a value is determined by its two bytes
same_value : (a b : List ℕ) (p : ℕ) → get_or a p 0 ≡ get_or b p 0 → get_or a (p + 1) 0 ≡ get_or b (p + 1) 0 → value_at a p ≡ value_at b p
unfolding value_at
same_value a b p first second =
    let e : p + 0 ≡ p = omega arith in
    let a0 : get_or (drop p a) 0 0 ≡ get_or b p 0 = get_or-drop p a 0 0 ∙ rw e first in
    let a1 : get_or (drop p a) 1 0 ≡ get_or b (p + 1) 0 = get_or-drop p a 1 0 ∙ second in
    let b0 : get_or (drop p b) 0 0 ≡ get_or b p 0 = get_or-drop p b 0 0 ∙ rw e refl in
    let b1 : get_or (drop p b) 1 0 ≡ get_or b (p + 1) 0 = get_or-drop p b 1 0 in
    rw (a0, a1, b0, b1) refl

-- an error before the end of the bytes remains one in any continuation
break_longer : (n m : ℕ) (bytes more : List ℕ) (p : ℕ) → p < length bytes → BreaksUpTo n bytes p → BreaksUpTo m (bytes ++ more) p
break_longer n m bytes more p inside (inl (four, there, off)) =
    inl (four, omega (arith, there, length-append bytes more), λ e. off (sym (get_or_append_left bytes more 0 p inside) ∙ e))
break_longer n m bytes more p inside (inr (inl (low, high, even, room, large))) =
    let v = same_value (bytes ++ more) bytes p (get_or_append_left bytes more 0 p inside) (get_or_append_left bytes more 0 (p + 1) (omega (arith, room))) in
    inr (inl (low, high, even, omega (arith, room, length-append bytes more), rw v large))
break_longer n m bytes more p inside (inr (inr (end, early))) = absurd (omega (arith, end, inside))

-- an error in a continuation is one in the bytes themselves, unless it is in a value that continues past their end
pub break_shorter : (n m : ℕ) (bytes more : List ℕ) (p : ℕ) → p < length bytes → (p + 1 < length bytes) ⊎ (244 ≤ length bytes) → BreaksUpTo m (bytes ++ more) p →
    BreaksUpTo n bytes p
break_shorter n m bytes more p inside second (inl (four, there, off)) =
    inl (four, inside, λ e. off (get_or_append_left bytes more 0 p inside ∙ e))
break_shorter n m bytes more p inside second (inr (inl (low, high, even, room, large))) =
    let two : p + 1 < length bytes = elim second [ inl s ↦ s | inr long ↦ omega (arith, long, high, even) ] in
    let v = same_value (bytes ++ more) bytes p (get_or_append_left bytes more 0 p inside) (get_or_append_left bytes more 0 (p + 1) two) in
    inr (inl (low, high, even, omega (arith, two), rw (← v) large))
break_shorter n m bytes more p inside second (inr (inr (end, early))) = absurd (omega (arith, end, inside, length-append bytes more))

-- past the length of a certificate there is no error
none_behind : (n : ℕ) (bytes : List ℕ) (p : ℕ) → n ≤ p → 244 ≤ p → BreaksUpTo n bytes p → ⊥
none_behind n bytes p past front (inl (four, there, off)) = omega (arith, front, four)
none_behind n bytes p past front (inr (inl (low, high, even, room, large))) = omega (arith, front, high)
none_behind n bytes p past front (inr (inr (end, early))) = omega (arith, past, early)

-- bytes that begin with a complete certificate state its length
pub count_of_whole : (c : Held) → IsWhole c → (more : List ℕ) → count_of (bytes_of c ++ more) ≡ length (bytes_of c)
count_of_whole c whole more = count_longer (bytes_of c) more (whole_long c whole) ∙ count_whole c whole
  where
    whole_long : (c : Held) → IsWhole c → head_count ≤ length (bytes_of c)
    whole_long c whole = omega (arith, length-bytes_of c whole)

-- a complete certificate has no format error, whatever follows
pub whole_front : (c : Held) → IsWhole c → (more : List ℕ) (p : ℕ) → Breaks (bytes_of c ++ more) p → ⊥
whole_front c whole more p broken =
    let size = length-bytes_of c whole in
    let all = count_of_whole c whole more in
    elim (cases_lt p (length (bytes_of c))) [
      | inl inside ↦ whole_unbroken c whole p (break_shorter (count_of (bytes_of c)) (count_of (bytes_of c ++ more)) (bytes_of c) more p inside (inr (omega (arith, size))) broken)
      | inr past ↦ none_behind (count_of (bytes_of c ++ more)) (bytes_of c ++ more) p (omega (arith, all, past)) (omega (arith, size, past)) broken
    ]

-- the first error before the end of the bytes is the first in any continuation
pub first_longer : (n m : ℕ) (bytes more : List ℕ) (p : ℕ) → p < length bytes → IsFirstBreakUpTo n bytes p → IsFirstBreakUpTo m (bytes ++ more) p
first_longer n m bytes more p inside first = record {
  here = break_longer n m bytes more p inside first.here;
  before = λ q l b. first.before q l (break_shorter n m bytes more q (omega (arith, l, inside)) (inl (omega (arith, l, inside))) b);
}

-- before the end of the bytes, an error is in the mark or in a value
pub early_break : (n : ℕ) (bytes : List ℕ) (p : ℕ) → p < length bytes → BreaksUpTo n bytes p → p < 244
early_break n bytes p inside (inl (four, there, off)) = omega (arith, four)
early_break n bytes p inside (inr (inl (low, high, even, room, large))) = high
early_break n bytes p inside (inr (inr (end, early))) = absurd (omega (arith, end, inside))

-- ---- the bytes up to the set

-- the first error in the bytes up to the set is the first of all
pub first_of_front : (bytes : List ℕ) (m p : ℕ) → p < length (take m bytes) → IsFirstBreakUpTo head_count (take m bytes) p → (p < length bytes) × IsFirstBreak bytes p
first_of_front bytes m p inside first = (
  omega (arith, inside, length-take m bytes),
  subst (λ l. IsFirstBreakUpTo (count_of bytes) l p) (take-append-drop m bytes) (first_longer head_count (count_of bytes) (take m bytes) (drop m bytes) p inside first),
)

-- if the first error is the end of the bytes up to the set, they are too few, and no byte breaks the format
pub sound_by_end : (bytes : List ℕ) (m p : ℕ) → m ≡ min (length bytes) head_count → length (take m bytes) ≤ p → IsFirstBreakUpTo head_count (take m bytes) p →
    (length bytes < head_count) × IsSound bytes
sound_by_end bytes m p size behind first = by_kind first.here
  where
    all : length (take m bytes) ≡ min m (length bytes)
    all = length-take m bytes

    by_kind : BreaksUpTo head_count (take m bytes) p → (length bytes < head_count) × IsSound bytes
    by_kind (inl (four, there, off)) = absurd (omega (arith, there, behind))
    by_kind (inr (inl (low, high, even, room, large))) = absurd (omega (arith, room, behind))
    by_kind (inr (inr (end, early))) =
        let few : length bytes < head_count = omega (arith, all, size, end, early) in (
          few,
          λ q inside b.
              let whole : take m bytes ≡ bytes = take_all m bytes (omega (arith, size, few)) in
              let spoiled = before_end (count_of bytes) bytes q inside b in
              first.before q (omega (arith, behind, inside, ap length whole)) (subst (λ l. BreaksUpTo head_count l q) (sym whole) (of_spoiled head_count bytes q spoiled)),
        )

-- if the bytes up to the set have no error, no byte breaks the format, and they state the length
pub sound_by_head : (bytes : List ℕ) (m : ℕ) → m ≡ min (length bytes) head_count → IsUnbrokenUpTo head_count (take m bytes) →
    (head_count ≤ length bytes) × (count_of (take m bytes) ≡ count_of bytes) × IsSound bytes
sound_by_head bytes m size unbroken = (
  long,
  ap (λ n. count_of (take n bytes)) m_is ∙ sym (count_of_front bytes long),
  λ q inside b.
      let front = early_break (count_of bytes) bytes q inside b in
      unbroken q (break_shorter head_count (count_of bytes) (take m bytes) (drop m bytes) q (omega (arith, front, there)) (inr (omega (arith, there)))
      (subst (λ l. BreaksUpTo (count_of bytes) l q) (sym (take-append-drop m bytes)) b)),
)
  where
    there : head_count ≤ length (take m bytes)
    there = long_enough head_count (take m bytes) unbroken

    long : head_count ≤ length bytes
    long = omega (arith, there, length-take m bytes)

    m_is : m ≡ head_count
    m_is = omega (arith, size, long)

-- the first error in as many bytes as a certificate has is before their end
pub first_of_whole : (bytes : List ℕ) (p : ℕ) → count_of bytes ≤ length bytes → IsFirstBreak bytes p → (p < length bytes) × IsFirstBreak bytes p
first_of_whole bytes p long first = (by_kind first.here, first)
  where
    by_kind : Breaks bytes p → p < length bytes
    by_kind (inl (four, there, off)) = there
    by_kind (inr (inl (low, high, even, room, large))) = omega (arith, room)
    by_kind (inr (inr (end, early))) = absurd (omega (arith, end, early, long))

-- ---- how many bytes of a certificate can be read

-- at most the certificate's length can be read
pub aim_least : (part : List ℕ) (aim : ℕ) → IsAim part aim → aim ≤ count_of part
aim_least part aim (inl head) = let least = count_least part in omega (arith, head, least)
aim_least part aim (inr (long, all)) = omega (arith, all)

-- at least the bytes up to its set can be read
pub aim_head : (part : List ℕ) (aim : ℕ) → IsAim part aim → head_count ≤ aim
aim_head part aim (inl head) = omega (arith, head)
aim_head part aim (inr (long, all)) = let least = count_least part in omega (arith, all, least)

-- a part read so far is no longer than the length that it states
pub aim_fits : (part piece : List ℕ) (aim : ℕ) → IsAim part aim → length (part ++ piece) ≤ aim → length (part ++ piece) ≤ count_of (part ++ piece)
aim_fits part piece aim (inl head) few = let least = count_least (part ++ piece) in omega (arith, head, few, least)
aim_fits part piece aim (inr (long, all)) few = let same = count_longer part piece long in omega (arith, all, few, same)

pub read_fits : (part next : List ℕ) (aim n : ℕ) (between now : SourceState) → IsAim part aim → HasReadOn n part next between now → length part + n ≤ aim →
    length next ≤ count_of next
read_fits part next aim n between now is h few =
    subst (λ l. length l ≤ count_of l) (sym h.joined) (aim_fits part h.piece aim is (omega (arith, few, h.count, length-append part h.piece)))
