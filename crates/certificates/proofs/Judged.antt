-- The answers to certificates are determined by their bytes.
use Rattle.std.proofs.Common.{◌≡◌, ℕ, ◌<◌, ◌↔◌, Bool, true, false, List, [], ◌∷◌, ◌++◌, length, refl, ap, sym, subst, ◌∙◌, arith, length-append}
use Rattle.std.specs.Prelude.{IsTrue, All}
use Rattle.std.specs.List.{AllZip}
use Rattle.std.proofs.lemmas.List.Elements.{All-nil, All-cons}
use Rattle.tail_cert.specs.Certificate.{Held, IsWhole, IsAccepted}
use Rattle.tail_cert.specs.Form.{bytes_of}
use Rattle.tail_cert.proofs.Codes.{length-bytes_of, same_certificate, same_parts}
use Rattle.certificates.specs.Stream.{all_bytes, IsAnswer, AreAnswers}
use Rattle.certificates.proofs.Rest.{same_length}

-- a relation between the items of two pairs of lists holds for the concatenated lists
pub zip_append : {A B : Type 0} (R : A → B → Type 0) (xs us : List A) (ys vs : List B) → AllZip R xs ys → AllZip R us vs → AllZip R (xs ++ us) (ys ++ vs)
zip_append R [] us [] vs a b = b
zip_append R [] us (y ∷ ys) vs a b = absurd a
zip_append R (x ∷ xs) us [] vs a b = absurd a
zip_append R (x ∷ xs) us (y ∷ ys) vs (first, rest) b = (first, zip_append R xs us ys vs rest b)

-- answered certificates are whole
pub all_whole : (cs : List Held) (answers : List Bool) → AllZip IsAnswer cs answers → All IsWhole cs
all_whole [] [] z = All-nil IsWhole
all_whole [] (a ∷ answers) z = absurd z
all_whole (c ∷ cs) [] z = absurd z
all_whole (c ∷ cs) (a ∷ answers) (first, rest) = All-cons IsWhole c cs first.whole (all_whole cs answers rest)

-- answers that are true under the same condition are equal
same_answer : (a b : Bool) (P : Type 0) → (IsTrue a ↔ P) → (IsTrue b ↔ P) → a ≡ b
same_answer true true P x y = refl
same_answer true false P x y = absurd (cc (y.1 (x.0 refl)))
same_answer false true P x y = absurd (cc (x.1 (y.0 refl)))
same_answer false false P x y = refl

-- certificates are not empty
some_bytes : (c : Held) (cs : List Held) → IsWhole c → 0 < length (all_bytes (c ∷ cs))
some_bytes c cs whole = omega (arith, length-bytes_of c whole, length-append (bytes_of c) (all_bytes cs))

-- equal bytes have equal answers
same_answers : (cs ds : List Held) (first second : List Bool) → AllZip IsAnswer cs first → AllZip IsAnswer ds second → all_bytes cs ≡ all_bytes ds → first ≡ second
same_answers [] [] [] [] a b e = refl
same_answers [] [] [] (y ∷ ys) a b e = absurd b
same_answers [] [] (x ∷ xs) second a b e = absurd a
same_answers [] (d ∷ ds) first [] a b e = absurd b
same_answers [] (d ∷ ds) first (y ∷ ys) a (q, b) e = absurd (omega (arith, ap length e, some_bytes d ds q.whole))
same_answers (c ∷ cs) [] [] second a b e = absurd a
same_answers (c ∷ cs) [] (x ∷ xs) second (p, a) b e = absurd (omega (arith, ap length e, some_bytes c cs p.whole))
same_answers (c ∷ cs) (d ∷ ds) [] second a b e = absurd a
same_answers (c ∷ cs) (d ∷ ds) (x ∷ xs) [] a b e = absurd b
same_answers (c ∷ cs) (d ∷ ds) (x ∷ xs) (y ∷ ys) (p, a) (q, b) e =
    let parts = same_parts (bytes_of c) (bytes_of d) (all_bytes cs) (all_bytes ds) (same_length c d p.whole q.whole (all_bytes cs) (all_bytes ds) e) e in
    let same = same_certificate c d p.whole q.whole parts.0 in
    let head : x ≡ y = same_answer x y (IsAccepted c) p.right (subst (λ c. IsTrue y ↔ IsAccepted c) (sym same) q.right) in
    let tail = same_answers cs ds xs ys a b parts.1 in
    cc (head, tail)

-- bytes have one list of answers
pub one_answers : (bytes : List ℕ) (first second : List Bool) → AreAnswers bytes first → AreAnswers bytes second → first ≡ second
one_answers bytes first second a b = same_answers a.certificates b.certificates first second a.each b.each (sym a.read ∙ b.read)
