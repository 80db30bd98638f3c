-- Whole certificates and the bytes after them.
use Rattle.std.proofs.Common.{◌≡◌, ℕ, suc, ◌+◌, List, [], ◌∷◌, ◌++◌, length, refl, ap, sym, subst, ◌∙◌, arith, append_assoc, append-nil, length-append}
use Rattle.std.specs.Prelude.{All}
use Rattle.std.proofs.lemmas.List.Elements.{All-append}
use Rattle.std.proofs.lemmas.Grind.{flat_map-append}
use Rattle.tail_cert.specs.Certificate.{Held, IsWhole}
use Rattle.tail_cert.specs.Form.{bytes_of, count_of, Breaks, IsFirstBreak}
use Rattle.tail_cert.proofs.Breaks.{one_first}
use Rattle.tail_cert.proofs.Codes.{same_parts}
use Rattle.certificates.specs.Stream.{all_bytes, IsFirstBroken}
use Rattle.certificates.proofs.Fronts.{count_of_whole, whole_front}

head_whole : (c : Held) (cs : List Held) → All IsWhole (c ∷ cs) → IsWhole c
head_whole c cs h = h 0 c (omega arith)

tail_whole : (c : Held) (cs : List Held) → All IsWhole (c ∷ cs) → All IsWhole cs
tail_whole c cs h = λ k d l. h (suc k) d (omega arith)

-- certificates that begin the same bytes have equal lengths
pub same_length : (c d : Held) → IsWhole c → IsWhole d → (r s : List ℕ) → bytes_of c ++ r ≡ bytes_of d ++ s → length (bytes_of c) ≡ length (bytes_of d)
same_length c d p q r s e = sym (count_of_whole c p r) ∙ ap count_of e ∙ count_of_whole d q s

-- complete certificates at the front are the first among those in front of an error
peel : (cs ds : List Held) (r s : List ℕ) (q : ℕ) → All IsWhole cs → All IsWhole ds → all_bytes cs ++ r ≡ all_bytes ds ++ s → Breaks s q →
    (es : List Held) × All IsWhole es × (r ≡ all_bytes es ++ s) × (length (all_bytes ds) ≡ length (all_bytes cs) + length (all_bytes es))
peel [] ds r s q h k e b = (ds, k, e, omega arith)
peel (c ∷ cs) [] r s q h k e b =
    let split : s ≡ bytes_of c ++ (all_bytes cs ++ r) = sym e ∙ append_assoc (bytes_of c) (all_bytes cs) r in
    absurd (whole_front c (head_whole c cs h) (all_bytes cs ++ r) q (subst (λ l. Breaks l q) split b))
peel (c ∷ cs) (d ∷ ds) r s q h k e b =
    let p = head_whole c cs h in
    let p' = head_whole d ds k in
    let e' = sym (append_assoc (bytes_of c) (all_bytes cs) r) ∙ e ∙ append_assoc (bytes_of d) (all_bytes ds) s in
    let parts = same_parts (bytes_of c) (bytes_of d) (all_bytes cs ++ r) (all_bytes ds ++ s) (same_length c d p p' (all_bytes cs ++ r) (all_bytes ds ++ s) e') e' in
    let (es, whole, split, size) = peel cs ds r s q (tail_whole c cs h) (tail_whole d ds k) parts.1 b in
    (es, whole, split, omega (arith, size, ap length parts.0, length-append (bytes_of c) (all_bytes cs), length-append (bytes_of d) (all_bytes ds)))

-- an error lies after the complete certificates
pub broken_after : (cs : List Held) → All IsWhole cs → (tail : List ℕ) (place : ℕ) → IsFirstBroken (all_bytes cs ++ tail) place →
    (q : ℕ) × (place ≡ length (all_bytes cs) + q) × IsFirstBroken tail q
broken_after cs h tail place b =
    let (es, whole, split, size) = peel cs b.certificates tail b.rest b.within h b.whole b.split b.first.here in (
      length (all_bytes es) + b.within,
      omega (arith, b.here, size),
      record { certificates = es; whole = whole; rest = b.rest; split = split; some = b.some; within = b.within; first = b.first; here = refl },
    )

-- an error in the bytes after complete certificates is one in the whole sequence
pub broken_later : (cs : List Held) → All IsWhole cs → (tail : List ℕ) (q : ℕ) → IsFirstBroken tail q → IsFirstBroken (all_bytes cs ++ tail) (length (all_bytes cs) + q)
broken_later cs h tail q b =
    let joined : all_bytes (cs ++ b.certificates) ≡ all_bytes cs ++ all_bytes b.certificates = flat_map-append bytes_of cs b.certificates in
    record {
      certificates = cs ++ b.certificates;
      whole = All-append IsWhole cs b.certificates h b.whole;
      rest = b.rest;
      split = ap (λ l. all_bytes cs ++ l) b.split ∙ sym (append_assoc (all_bytes cs) (all_bytes b.certificates) b.rest) ∙ ap (λ l. l ++ b.rest) (sym joined);
      some = b.some;
      within = b.within;
      first = b.first;
      here = omega (arith, b.here, ap length joined, length-append (all_bytes cs) (all_bytes b.certificates));
    }

-- no certificate lies in front of an error in the bytes themselves
none_before : (cs : List Held) (bytes rest : List ℕ) (p : ℕ) → All IsWhole cs → Breaks bytes p → bytes ≡ all_bytes cs ++ rest → (bytes ≡ rest) × (length (all_bytes cs) ≡ 0)
none_before [] bytes rest p h b e = (e, refl)
none_before (c ∷ cs) bytes rest p h b e =
    absurd (whole_front c (head_whole c cs h) (all_bytes cs ++ rest) p (subst (λ l. Breaks l p) (e ∙ append_assoc (bytes_of c) (all_bytes cs) rest) b))

-- the first error in a sequence of certificates is unique
pub one_first_broken : (bytes : List ℕ) (p q : ℕ) → IsFirstBroken bytes p → IsFirstBroken bytes q → p ≡ q
one_first_broken bytes p q a b =
    let (q', e, b') = broken_after a.certificates a.whole a.rest q (subst (λ l. IsFirstBroken l q) a.split b) in
    let (same, none) = none_before b'.certificates a.rest b'.rest a.within b'.whole a.first.here b'.split in
    let one = one_first (count_of b'.rest) b'.rest a.within b'.within (subst (λ l. IsFirstBreak l a.within) same a.first) b'.first in
    omega (arith, a.here, e, b'.here, none, one)

-- the empty list has no rest
no_rest : (front rest : List ℕ) → [] ≡ front ++ rest → rest ≡ []
no_rest front [] e = refl
no_rest front (x ∷ rest) e = absurd (omega (arith, ap length e, length-append front (x ∷ rest)))

-- complete certificates have no format error
pub none_broken : (cs : List Held) → All IsWhole cs → (place : ℕ) → IsFirstBroken (all_bytes cs) place → ⊥
none_broken cs h place b =
    let (q, e, b') = broken_after cs h [] place (subst (λ l. IsFirstBroken l place) (sym (append-nil (all_bytes cs))) b) in
    b'.some (no_rest (all_bytes b'.certificates) b'.rest b'.split)
