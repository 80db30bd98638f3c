-- Whole certificates followed by a part of one.
use Rattle.std.proofs.Common.{◌≡◌, ◌≢◌, ℕ, ◌+◌, ◌<◌, ◌≤◌, inl, inr, List, [], ◌∷◌, ◌++◌, length, refl, ap, sym, subst, ◌∙◌, arith, append_assoc, length-append}
use Rattle.std.specs.Prelude.{All}
use Rattle.std.proofs.lemmas.List.Elements.{All-nil}
use Rattle.std.proofs.lemmas.Bool.{cases_lt}
use Rattle.tail_cert.specs.Certificate.{Held, IsWhole}
use Rattle.tail_cert.specs.Form.{bytes_of, count_of, head_count, Breaks, IsFirstBreak}
use Rattle.tail_cert.proofs.Breaks.{count_least}
use Rattle.tail_cert.proofs.Whole.{count_longer}
use Rattle.certificates.specs.Stream.{all_bytes, IsFirstBroken}
use Rattle.certificates.specs.Reading.{IsSound}
use Rattle.certificates.proofs.Fronts.{break_shorter, count_of_whole, first_longer}
use Rattle.certificates.proofs.Rest.{broken_after, broken_later}

-- a first error within the length of the first certificate is an error in the bytes themselves
in_front : (bytes : List ℕ) (place : ℕ) → IsFirstBroken bytes place → place < count_of bytes → Breaks bytes place
in_front bytes place b below = by_certificates b.certificates b.whole b.split b.here
  where
    by_certificates : (cs : List Held) → All IsWhole cs → bytes ≡ all_bytes cs ++ b.rest → place ≡ length (all_bytes cs) + b.within → Breaks bytes place
    by_certificates [] h split here =
        let same : place ≡ b.within = omega (arith, here) in
        subst (λ p. Breaks bytes p) (sym same) (subst (λ l. Breaks l b.within) (sym split) b.first.here)
    by_certificates (c ∷ cs) h split here =
        let size = ap count_of (split ∙ append_assoc (bytes_of c) (all_bytes cs) b.rest) ∙ count_of_whole c (h 0 c (omega arith)) (all_bytes cs ++ b.rest) in
        absurd (omega (arith, below, here, size, length-append (bytes_of c) (all_bytes cs)))

-- a part no longer than it states lies within the stated length in any continuation
within_count : (part rest : List ℕ) (q : ℕ) → length part ≤ count_of part → q < length part → q < count_of (part ++ rest)
within_count part rest q fits inside = elim (cases_lt (length part) head_count) [
  | inl few ↦ let least = count_least (part ++ rest) in omega (arith, few, inside, least)
  | inr long ↦ let same = count_longer part rest long in omega (arith, same, fits, inside)
]

some_bytes : (part : List ℕ) → 0 < length part → part ≢ []
some_bytes part some e = omega (arith, some, ap length e)

-- if the bytes end within a certificate, their end is the first error
pub cut_off : (cs : List Held) → All IsWhole cs → (part : List ℕ) → 0 < length part → length part < count_of part → IsSound part →
    IsFirstBroken (all_bytes cs ++ part) (length (all_bytes cs) + length part)
cut_off cs h part some few sound = broken_later cs h part (length part) (record {
  certificates = [];
  whole = All-nil IsWhole;
  rest = part;
  split = refl;
  some = some_bytes part some;
  within = length part;
  first = record { here = inr (inr (refl, few)); before = sound };
  here = omega arith;
})

-- the first error in the part is the first of all, whatever follows
pub first_broken : (cs : List Held) → All IsWhole cs → (part : List ℕ) (q : ℕ) → q < length part → IsFirstBreak part q → (rest : List ℕ) →
    IsFirstBroken (all_bytes cs ++ (part ++ rest)) (length (all_bytes cs) + q)
first_broken cs h part q inside first rest = broken_later cs h (part ++ rest) q (record {
  certificates = [];
  whole = All-nil IsWhole;
  rest = part ++ rest;
  split = refl;
  some = some_bytes (part ++ rest) (omega (arith, inside, length-append part rest));
  within = q;
  first = first_longer (count_of part) (count_of (part ++ rest)) part rest q inside first;
  here = omega arith;
})

-- if no byte of a part except the last breaks the format, none of them does in any continuation
pub none_however : (cs : List Held) → All IsWhole cs → (part : List ℕ) → length part ≤ count_of part → ((q : ℕ) → q + 1 < length part → Breaks part q → ⊥) →
    (rest : List ℕ) (place : ℕ) → IsFirstBroken (all_bytes cs ++ (part ++ rest)) place → length (all_bytes cs) + length part ≤ place + 1
none_however cs h part fits sound rest place b =
    let (q, e, b') = broken_after cs h (part ++ rest) place b in
    elim (cases_lt (q + 1) (length part)) [
      | inl inside ↦
          let there : q < length part = omega (arith, inside) in
          absurd (sound q inside (break_shorter (count_of part) (count_of (part ++ rest)) part rest q there (inl inside) (in_front (part ++ rest) q b' (within_count part rest q fits there))))
      | inr past ↦ omega (arith, e, past)
    ]

-- if no byte of a part breaks the format, none of the bytes up to its end does
pub none_so_far : (cs : List Held) → All IsWhole cs → (part : List ℕ) → length part ≤ count_of part → IsSound part →
    (place : ℕ) → IsFirstBroken (all_bytes cs ++ part) place → length (all_bytes cs) + length part ≤ place
none_so_far cs h part fits sound place b =
    let (q, e, b') = broken_after cs h part place b in
    elim (cases_lt q (length part)) [
      | inl inside ↦ absurd (sound q inside (in_front part q b' (omega (arith, inside, fits))))
      | inr past ↦ omega (arith, e, past)
    ]
