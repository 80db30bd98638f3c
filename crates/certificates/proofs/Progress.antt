-- Certificates read one after another: what holds after each read.
use Rattle.std.proofs.Common.{◌≡◌, ℕ, ◌+◌, ◌<◌, ◌≤◌, inl, inr, Bool, List, [], ◌∷◌, ◌++◌, length, take, refl, ap, sym, subst, ◌∙◌, arith, append_assoc, append-nil, length-append}
use Rattle.std.specs.List.{AllZip}
use Rattle.std.proofs.lemmas.Grind.{flat_map-append}
use Rattle.std.specs.Option.{option_map}
use Rattle.std.proofs.lemmas.Bool.{cases_lt}
use Rattle.cs_outside.specs.Counts.{Rose}
use Rattle.cs_outside.specs.Outside.{SourceState}
use Rattle.cs_outside.specs.Streams.{HasRead, HasReadOn}
use Rattle.cs_outside.proofs.Reading.{read_nothing, read_then}
use Rattle.tail_cert.specs.Certificate.{Held, IsWhole}
use Rattle.tail_cert.specs.Form.{bytes_of, count_of, most_count, Breaks, IsFirstBreak}
use Rattle.tail_cert.proofs.Whole.{whole_unbroken}
use Rattle.certificates.specs.Stream.{most_bytes, all_bytes, IsAnswer, IsFirstBroken, IsBrokenAt}
use Rattle.certificates.specs.declared.error.StreamError.{StreamError}
use Rattle.certificates.specs.declared.error.StreamError.TheVariants.{Broken as BrokenAt, TooLong}
use Rattle.certificates.specs.Reading.{IsSound, IsCause, HasReadAnswers, HasReadBroken, HasReadTooMany, HasFailedUnbroken}
use Rattle.certificates.proofs.Judged.{zip_append, all_whole}
use Rattle.certificates.proofs.Parts.{cut_off, first_broken, none_however, none_so_far}

-- complete certificates with `done` bytes and these answers were read, then a part of one in which no byte breaks the
-- format
pub record IsReadTo (answers : List Bool) (done : ℕ) (part : List ℕ) (before now : SourceState) : Type 0 where
  pub certificates : List Held
  pub each : AllZip IsAnswer certificates answers
  pub size : length (all_bytes certificates) ≡ done
  pub read : HasRead (all_bytes certificates ++ part) before now
  pub sound : IsSound part

nothing_sound : IsSound []
nothing_sound place inside b = omega (arith, inside)

pub read_none : (before : SourceState) → IsReadTo [] 0 [] before before
read_none before = record { certificates = []; each = tt; size = refl; read = read_nothing before; sound = nothing_sound }

-- a further piece extends the part
longer : (answers : List Bool) (done : ℕ) (part piece : List ℕ) (before between now : SourceState) (s : IsReadTo answers done part before between) → HasRead piece between now →
    HasRead (all_bytes s.certificates ++ (part ++ piece)) before now
longer answers done part piece before between now s more =
    subst (λ l. HasRead l before now) (append_assoc (all_bytes s.certificates) part piece) (read_then _ piece before between now s.read more)

-- the same, for a piece read to an offset in the buffer
longer_on : (answers : List Bool) (done n : ℕ) (part next : List ℕ) (before between now : SourceState) (s : IsReadTo answers done part before between) → HasReadOn n part next between now →
    HasRead (all_bytes s.certificates ++ next) before now
longer_on answers done n part next before between now s h =
    subst (λ l. HasRead (all_bytes s.certificates ++ l) before now) (sym h.joined) (longer answers done part h.piece before between now s h.read)

no_piece : (n : ℕ) (piece : List ℕ) → length piece ≡ n → n ≡ 0 → piece ≡ []
no_piece n [] size zero = refl
no_piece n (x ∷ piece) size zero = absurd (omega (arith, size, zero))

-- the same, for an empty piece
ended_on : (answers : List Bool) (done n : ℕ) (part next : List ℕ) (before between now : SourceState) (s : IsReadTo answers done part before between) → HasReadOn n part next between now →
    n ≡ 0 → HasRead (all_bytes s.certificates ++ part) before now
ended_on answers done n part next before between now s h zero =
    let same : part ++ h.piece ≡ part = ap (λ l. part ++ l) (no_piece n h.piece h.count zero) ∙ append-nil part in
    subst (λ l. HasRead (all_bytes s.certificates ++ l) before now) same (longer answers done part h.piece before between now s h.read)

-- ---- the reading goes on

-- the longer part is still incomplete
pub part_on : (answers : List Bool) (done n : ℕ) (part next : List ℕ) (before between now : SourceState) → IsReadTo answers done part before between →
    HasReadOn n part next between now → IsSound next → IsReadTo answers done next before now
part_on answers done n part next before between now s h sound =
    record { certificates = s.certificates; each = s.each; size = s.size; read = longer_on answers done n part next before between now s h; sound = sound }

-- the longer part is a whole certificate
pub judged_on : (answers : List Bool) (done n : ℕ) (part next : List ℕ) (before between now : SourceState) (answer : Bool) → IsReadTo answers done part before between →
    HasReadOn n part next between now → ((certificate : Held) × IsAnswer certificate answer × (next ≡ bytes_of certificate)) →
    IsReadTo (answers ++ (answer ∷ [])) (done + length next) [] before now
judged_on answers done n part next before between now answer s h (certificate, right, bytes) =
    let one : all_bytes (s.certificates ++ (certificate ∷ [])) ≡ all_bytes s.certificates ++ (bytes_of certificate ++ []) = flat_map-append bytes_of s.certificates (certificate ∷ []) in
    let joined : all_bytes s.certificates ++ next ≡ all_bytes (s.certificates ++ (certificate ∷ [])) ++ [] =
    ap (λ l. all_bytes s.certificates ++ l) (bytes ∙ sym (append-nil (bytes_of certificate))) ∙ sym one ∙ sym (append-nil (all_bytes (s.certificates ++ (certificate ∷ [])))) in
    record {
      certificates = s.certificates ++ (certificate ∷ []);
      each = zip_append IsAnswer s.certificates (certificate ∷ []) answers (answer ∷ []) s.each (right, tt);
      size =
          let old = s.size in
          omega (arith, old, ap length one, ap length bytes, length-append (all_bytes s.certificates) (bytes_of certificate ++ []), ap length (append-nil (bytes_of certificate)));
      read = subst (λ l. HasRead l before now) joined (longer_on answers done n part next before between now s h);
      sound = nothing_sound;
    }

pub judged_to : (answers : List Bool) (done n m : ℕ) (part next : List ℕ) (before between now : SourceState) (answer : Bool) → IsReadTo answers done part before between →
    HasReadOn n part next between now → ((certificate : Held) × IsAnswer certificate answer × (next ≡ bytes_of certificate)) → length next ≡ m →
    IsReadTo (answers ++ (answer ∷ [])) (done + m) [] before now
judged_to answers done n m part next before between now answer s h judged size =
    subst (λ k. IsReadTo (answers ++ (answer ∷ [])) (done + k) [] before now) size (judged_on answers done n part next before between now answer s h judged)

-- ---- how the reading ends

-- at the end of the input, after complete certificates
pub whole_on : (answers : List Bool) (done n filled : ℕ) (buffer next : List ℕ) (before between now : SourceState) → IsReadTo answers done (take filled buffer) before between →
    HasReadOn n (take filled buffer) next between now → n ≡ 0 → filled ≡ 0 → done ≤ most_bytes → HasReadAnswers answers before now
whole_on answers done n filled buffer next before between now s h zero empty few =
    let all : HasRead (all_bytes s.certificates ++ take filled buffer) before now = ended_on answers done n (take filled buffer) next before between now s h zero in
    let none : all_bytes s.certificates ++ take filled buffer ≡ all_bytes s.certificates =
    ap (λ m. all_bytes s.certificates ++ take m buffer) empty ∙ append-nil (all_bytes s.certificates) in
    record {
      bytes = all_bytes s.certificates;
      are_answers = record { certificates = s.certificates; each = s.each; read = refl };
      whole = record {
        read = subst (λ l. HasRead l before now) none all;
        ended = h.end zero;
        within = let size = s.size in omega (arith, size, few);
      };
    }

-- at the end of the input, within a certificate
pub early_on : (answers : List Bool) (done n : ℕ) (part next : List ℕ) (before between now : SourceState) (place : ℕ) → IsReadTo answers done part before between →
    HasReadOn n part next between now → n ≡ 0 → 0 < length part → length part < count_of part → place ≡ done + length part → place ≤ most_bytes →
    HasReadBroken place before now
early_on answers done n part next before between now place s h zero some few here within =
    let size = s.size in
    let all = length-append (all_bytes s.certificates) part in
    let first : IsFirstBroken (all_bytes s.certificates ++ part) place =
    subst (λ p. IsFirstBroken (all_bytes s.certificates ++ part) p) (omega (arith, size, here)) (cut_off s.certificates (all_whole s.certificates answers s.each) part some few s.sound) in
    record {
      bytes = all_bytes s.certificates ++ part;
      read = ended_on answers done n part next before between now s h zero;
      broken = record { first = first; within = inr (omega (arith, size, all, here, within)) };
      near = omega (arith, size, all, here);
      few = omega (arith, size, all, here, within);
      settled = inl (h.end zero);
    }

-- at a byte that breaks the format
pub broken_on : (answers : List Bool) (done n : ℕ) (part next : List ℕ) (before between now : SourceState) (within place : ℕ) → IsReadTo answers done part before between →
    HasReadOn n part next between now → (within < length next) × IsFirstBreak next within → place ≡ done + within → place < most_bytes →
    length next ≤ most_count → done + length next ≤ most_bytes + 1 → HasReadBroken place before now
broken_on answers done n part next before between now within place s h (inside, first) here below one all_few =
    let size = s.size in
    let all = length-append (all_bytes s.certificates) next in
    let bytes : List ℕ = all_bytes s.certificates ++ next in
    let always : (rest : List ℕ) → IsBrokenAt (bytes ++ rest) place = λ rest. record {
      first = subst (λ l. IsFirstBroken l place) (sym (append_assoc (all_bytes s.certificates) next rest))
          (subst (λ p. IsFirstBroken (all_bytes s.certificates ++ (next ++ rest)) p) (omega (arith, size, here))
          (first_broken s.certificates (all_whole s.certificates answers s.each) next within inside first rest));
      within = inl below;
    } in
    record {
      bytes = bytes;
      read = longer_on answers done n part next before between now s h;
      broken = subst (λ l. IsBrokenAt l place) (append-nil bytes) (always []);
      near = omega (arith, size, all, here, one);
      few = omega (arith, size, all, all_few);
      settled = inr always;
    }

-- one byte past the limit, if no byte except that one breaks the format
pub past_on : (answers : List Bool) (done n : ℕ) (part next : List ℕ) (before between now : SourceState) → IsReadTo answers done part before between →
    HasReadOn n part next between now → length next ≤ count_of next → ((q : ℕ) → q + 1 < length next → Breaks next q → ⊥) → done + length next ≡ most_bytes + 1 →
    HasReadTooMany before now
past_on answers done n part next before between now s h fits sound full =
    let size = s.size in
    let whole = all_whole s.certificates answers s.each in
    let all = length-append (all_bytes s.certificates) next in
    record {
      front = all_bytes s.certificates ++ next;
      read = longer_on answers done n part next before between now s h;
      past = omega (arith, size, all, full);
      unbroken = λ rest place b.
          let least = none_however s.certificates whole next fits sound rest place
          (subst (λ l. IsFirstBroken l place) (append_assoc (all_bytes s.certificates) next rest) b) in
          omega (arith, least, size, full);
    }

-- no byte of a part except the last breaks the format
pub not_before_last : (part : List ℕ) (q : ℕ) → IsFirstBreak part q → length part ≤ q + 1 → (p : ℕ) → p + 1 < length part → Breaks part p → ⊥
not_before_last part q first last p inside b = first.before p (omega (arith, inside, last)) b

pub sound_but_last : (part : List ℕ) → IsSound part → (p : ℕ) → p + 1 < length part → Breaks part p → ⊥
sound_but_last part sound p inside b = sound p (omega (arith, inside)) b

pub whole_but_last : (part : List ℕ) (c : Held) → IsWhole c → part ≡ bytes_of c → (p : ℕ) → p + 1 < length part → Breaks part p → ⊥
whole_but_last part c whole bytes p inside b = whole_unbroken c whole p (subst (λ l. Breaks l p) bytes b)

-- a byte breaks the format, within the limit or past it
pub broken_or_past : (answers : List Bool) (done n : ℕ) (part next : List ℕ) (before between now : SourceState) (within : ℕ) (error : StreamError) →
    IsReadTo answers done part before between → HasReadOn n part next between now → (within < length next) × IsFirstBreak next within →
    length next ≤ most_count → length next ≤ count_of next → done + length next ≤ most_bytes + 1 →
    (done + within < most_bytes → error ≡ BrokenAt (done + within)) → (most_bytes ≤ done + within → error ≡ TooLong) → IsCause before now error
broken_or_past answers done n part next before between now within error s h broken one fits few below past = elim (cases_lt (done + within) most_bytes) [
  | inl inside ↦ subst (IsCause before now) (sym (below inside)) (broken_on answers done n part next before between now within (done + within) s h broken refl inside one few)
  | inr behind ↦ subst (IsCause before now) (sym (past behind))
      (past_on answers done n part next before between now s h fits (not_before_last next within broken.1 (omega (arith, behind, few))) (omega (arith, behind, few, broken.0)))
]

-- at a failed read
pub fault_on : (answers : List Bool) (done : ℕ) (part : List ℕ) (before between now : SourceState) → IsReadTo answers done part before between → now.left ≡ between.left →
    Rose before.faults now.faults → length part ≤ count_of part → done + length part ≤ most_bytes → HasFailedUnbroken before now
fault_on answers done part before between now s same rose few within =
    let front : List ℕ = all_bytes s.certificates ++ part in
    let size = s.size in
    let all = length-append (all_bytes s.certificates) part in
    record {
      front = front;
      failed = record {
        in_order = s.read.in_order ∙ ap (option_map (λ rest. front ++ rest)) (sym same);
        within = omega (arith, size, within, all);
        failed = rose;
      };
      unbroken = λ place b.
          let least = none_so_far s.certificates (all_whole s.certificates answers s.each) part few s.sound place b in
          omega (arith, least, all);
    }
