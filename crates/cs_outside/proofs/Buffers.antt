-- Bytes read into the middle of a buffer.
use Rattle.std.proofs.Common.{◌≡◌, ℕ, ◌+◌, ◌≤◌, ◌↔◌, List, [], ◌∷◌, ◌++◌, length, take, Option, Some, None, refl, length-append, ap, subst, ◌∙◌, arith, length-take-le, take_all}
use Rattle.std.specs.Prelude.{IfSome, IfOk, Result, Ok, Err}
use Rattle.std.specs.Option.{option_map}
use Rattle.std.proofs.Math.Seq.{take-append-add}
use Rattle.std.proofs.lemmas.List.{take-append-le}
use Rattle.cs_outside.specs.declared.Failed.{Failed}
use Rattle.cs_outside.specs.Outside.{SourceState}
use Rattle.cs_outside.specs.Streams.{HasRead, HasReadOn, IsAtEnd}

-- the first a + n bytes, after n new bytes were put at index a
take_put : (a n : ℕ) (buffer into rest : List ℕ) → a ≤ length buffer → n ≤ length into → take (a + n) (take a buffer ++ (into ++ rest)) ≡ take a buffer ++ take n into
take_put a n buffer into rest inside few =
    let front : length (take a buffer) ≡ a = length-take-le a buffer inside in
    let seam = take-append-add (take a buffer) (into ++ rest) n in
    subst (λ m. take (m + n) (take a buffer ++ (into ++ rest)) ≡ take a buffer ++ take n into) front (seam ∙ ap (λ l. take a buffer ++ l) (take-append-le n into rest few))

-- the first a bytes are kept
pub front_stays : (a : ℕ) (buffer more : List ℕ) → a ≤ length buffer → take a (take a buffer ++ more) ≡ take a buffer
front_stays a buffer more inside =
    let size : length (take a buffer) ≡ a = length-take-le a buffer inside in
    take-append-le a (take a buffer) more (omega (arith, size)) ∙ take_all a (take a buffer) (omega (arith, size))

-- a read that returns no bytes is at the end of the input
at_end : (n : ℕ) (piece : List ℕ) (before now : SourceState) → length piece ≡ n → HasRead piece before now → IfSome before.left (λ input. (n ≡ 0) ↔ (input ≡ [])) → n ≡ 0 → IsAtEnd now
at_end n piece before now size read end zero = by_left before.left now.left read.in_order end
  where
    no_bytes : (l : List ℕ) → length l ≡ 0 → l ≡ []
    no_bytes [] none = refl
    no_bytes (x ∷ l) none = absurd (omega (arith, none))

    by_left : (left rest : Option (List ℕ)) → left ≡ option_map (λ l. piece ++ l) rest → IfSome left (λ input. (n ≡ 0) ↔ (input ≡ [])) → IfSome rest (λ l. l ≡ [])
    by_left left None e empty = tt
    by_left None (Some rest) e empty = absurd (cc e)
    by_left (Some input) (Some rest) e empty =
        let split : input ≡ piece ++ rest = cc e in
        no_bytes rest (omega (arith, ap length (empty.0 zero), ap length split, length-append piece rest))

pub read_at_place : (a : ℕ) (buffer into rest : List ℕ) (before now : SourceState) → a ≤ length buffer → (r : Result ℕ Failed) → IfOk r (λ n. n ≤ length into) →
    IfOk r (λ n. HasRead (take n into) before now) → IfOk r (λ n. IfSome before.left (λ input. (n ≡ 0) ↔ (input ≡ []))) →
    IfOk r (λ n. HasReadOn n (take a buffer) (take (a + n) (take a buffer ++ (into ++ rest))) before now)
read_at_place a buffer into rest before now inside (Err e) few read end = tt
read_at_place a buffer into rest before now inside (Ok n) few read end =
    let size : length (take n into) ≡ n = length-take-le n into few in
    record { piece = take n into; count = size; joined = take_put a n buffer into rest inside few; read = read; end = at_end n (take n into) before now size read end }
