-- Pieces of bytes, replaced one after another.
use Rattle.std.proofs.Common.{◌≡◌, ℕ, ◌+◌, ◌*◌, ◌-◌, ◌<◌, ◌≤◌, cond, List, [], ◌∷◌, ◌++◌, Option, Some, None, length, take, drop, get_or, refl, sym, ap, ◌∙◌, arith}
use Rattle.std.specs.Prelude.{is_some}
use Rattle.std.specs.List.{flat_map}
use Rattle.std.proofs.lemmas.List.{append_assoc, append-nil, length-append, length-take-le, take_at, drop_at, take_more, take_all, drop_all, drop-drop, length-drop, take-append-drop, take_rest}
use Rattle.std.proofs.lemmas.List.Concat.{flat_map-append, flat_map-cons}
use Rattle.finite.specs.Lists.{values_below}
use Rattle.finite.specs.Sums.{total_below}
use Rattle.finite.proofs.Lists.{values_below_more}
use Rattle.finite.proofs.Sums.{total_below_more}
use Rattle.tail_cert.specs.Form.{maybe_bytes, table_bytes, table_count, with_piece}

-- the bytes of n + 1 tables that may be absent, from the bytes of n
pub one_more : (n : ℕ) (f : ℕ → Option (List (List ℕ))) → flat_map maybe_bytes (values_below (n + 1) f) ≡ flat_map maybe_bytes (values_below n f) ++ maybe_bytes (f n)
one_more n f = ap (flat_map maybe_bytes) (values_below_more n f) ∙ flat_map-append maybe_bytes (values_below n f) (f n ∷ [])
    ∙ ap (λ l. flat_map maybe_bytes (values_below n f) ++ l) (append-nil (maybe_bytes (f n)))

-- a write to the rest of the bytes from an offset
pub put_piece : (at : ℕ) (piece bytes mid : List ℕ) → mid ≡ piece ++ drop (length piece) (take (length bytes - at) (drop at bytes)) → at ≤ length bytes →
    take at bytes ++ (mid ++ drop (length bytes - at) (drop at bytes)) ≡ with_piece at piece bytes
unfolding with_piece
put_piece at piece bytes mid e inside =
    let long : length (drop at bytes) ≡ length bytes - at = length-drop at bytes in
    let past : drop (length bytes - at) (drop at bytes) ≡ [] = drop_all (length bytes - at) (drop at bytes) (omega (arith, long)) in
    let whole : take (length bytes - at) (drop at bytes) ≡ drop at bytes = take_rest bytes at in
    let mid' : mid ≡ piece ++ drop (at + length piece) bytes = e ∙ ap (λ l. piece ++ drop (length piece) l) whole ∙ ap (λ l. piece ++ l) (drop-drop (length piece) at bytes) in
    rw (past, mid', append-nil (piece ++ drop (at + length piece) bytes)) (sym (append_assoc (take at bytes) piece (drop (at + length piece) bytes)))

-- a write to a part of the bytes
pub put_part : (at n : ℕ) (piece bytes part : List ℕ) → part ≡ piece → length piece ≡ n →
    take at bytes ++ (part ++ drop (at + n - at) (drop at bytes)) ≡ with_piece at piece bytes
unfolding with_piece
put_part at n piece bytes part e size =
    let count : at + n - at ≡ length piece = omega (arith, size) in
    rw (count, e, drop-drop (length piece) at bytes) (sym (append_assoc (take at bytes) piece (drop (at + length piece) bytes)))

-- the total length of pieces with w bytes each
pub pieces_size : {A : Type 0} (f : A → List ℕ) (w : ℕ) → ((x : A) → length (f x) ≡ w) → (xs : List A) → length (flat_map f xs) ≡ w * length xs
pieces_size f w wide [] = omega arith
pieces_size f w wide (x ∷ xs) = omega (arith, ap length (flat_map-cons f x xs), length-append (f x) (flat_map f xs), wide x, pieces_size f w wide xs)

-- two adjacent pieces make one piece
pub with_pieces : (at : ℕ) (a b bytes : List ℕ) → at + length a ≤ length bytes →
    with_piece (at + length a) b (with_piece at a bytes) ≡ with_piece at (a ++ b) bytes
unfolding with_piece
with_pieces at a b bytes room =
    let front : List ℕ = take at bytes ++ a in
    let size : length front ≡ at + length a = length-append (take at bytes) a ∙ ap (λ n. n + length a) (length-take-le at bytes (omega (arith, room))) in
    let rest = drop (at + length a) bytes in
    let long : length (a ++ b) ≡ length a + length b = length-append a b in
    let taken : take (at + length a) (front ++ rest) ≡ front = take_at front rest (at + length a) size in
    let left : drop (at + length a + length b) (front ++ rest) ≡ drop (at + length (a ++ b)) bytes =
    sym (drop-drop (length b) (at + length a) (front ++ rest)) ∙ ap (drop (length b)) (drop_at front rest (at + length a) size)
    ∙ drop-drop (length b) (at + length a) bytes ∙ ap (λ n. drop n bytes) (let s : at + length a + length b ≡ at + length (a ++ b) = omega (arith, long) in s) in
    rw (taken, left, ← append_assoc (take at bytes) a b) refl

pub with_piece_all : (piece bytes : List ℕ) → length piece ≡ length bytes → with_piece 0 piece bytes ≡ piece
unfolding with_piece
with_piece_all piece bytes size = rw (drop_all (0 + length piece) bytes (omega (arith, size))) (append-nil piece)

pub length-with_piece : (at : ℕ) (piece bytes : List ℕ) → at + length piece ≤ length bytes → length (with_piece at piece bytes) ≡ length bytes
unfolding with_piece
length-with_piece at piece bytes room =
    let a = length-append (take at bytes ++ piece) (drop (at + length piece) bytes) in
    let b = length-append (take at bytes) piece in
    let c = length-take-le at bytes (omega (arith, room)) in
    let d = length-drop (at + length piece) bytes in
    omega (arith, a, b, c, d, room)

-- the pieces of the first i elements are written, each w bytes long
pub record IsWritten {A : Type 0} (f : A → List ℕ) (w : ℕ) (xs : List A) (at : ℕ) (old new : List ℕ) (i : ℕ) : Type 0 where
  pub bytes : new ≡ with_piece at (flat_map f (take i xs)) old
  pub size : length (flat_map f (take i xs)) ≡ w * i
  pub same : length new ≡ length old

pub written_none : {A : Type 0} (f : A → List ℕ) (w : ℕ) (xs : List A) (at : ℕ) (old : List ℕ) → IsWritten f w xs at old old 0
unfolding with_piece
written_none f w xs at old = record {
  bytes =
      let e : at + 0 ≡ at = omega arith in
      rw e (sym (ap (λ l. l ++ drop at old) (append-nil (take at old)) ∙ take-append-drop at old));
  size = omega arith;
  same = refl;
}

pub written_more : {A : Type 0} (f : A → List ℕ) (w : ℕ) (xs : List A) (at : ℕ) (old new next : List ℕ) (i : ℕ) (d : A) →
    IsWritten f w xs at old new i → i < length xs → length (f (get_or xs i d)) ≡ w → at + w * (i + 1) ≤ length old →
    next ≡ with_piece (at + w * i) (f (get_or xs i d)) new → IsWritten f w xs at old next (i + 1)
written_more f w xs at old new next i d known inside wide room e =
    let more : flat_map f (take (i + 1) xs) ≡ flat_map f (take i xs) ++ f (get_or xs i d) =
    ap (flat_map f) (take_more xs i d inside) ∙ flat_map-append f (take i xs) (get_or xs i d ∷ []) ∙ ap (λ l. flat_map f (take i xs) ++ l) (append-nil (f (get_or xs i d))) in
    let size = known.size in
    let times : w * (i + 1) ≡ w * i + w = omega arith in
    let long : length (flat_map f (take (i + 1) xs)) ≡ w * (i + 1) = ap length more ∙ length-append (flat_map f (take i xs)) (f (get_or xs i d)) ∙ (omega (arith, size, wide, times)) in
    let e' : next ≡ with_piece at (flat_map f (take (i + 1) xs)) old =
    e ∙ ap (λ l. with_piece (at + w * i) (f (get_or xs i d)) l) known.bytes ∙ ap (λ n. with_piece (at + n) (f (get_or xs i d)) (with_piece at (flat_map f (take i xs)) old)) (sym size)
    ∙ with_pieces at (flat_map f (take i xs)) (f (get_or xs i d)) old (omega (arith, size, room, times)) ∙ ap (λ l. with_piece at l old) (sym more) in
    record {
      bytes = e';
      size = long;
      same = ap length e' ∙ length-with_piece at _ old (omega (arith, long, room));
    }

pub written_all : {A : Type 0} (f : A → List ℕ) (w n : ℕ) (xs : List A) (at : ℕ) (old new : List ℕ) (i : ℕ) → IsWritten f w xs at old new i →
    length xs ≡ n → n ≤ i → i ≤ n → (new ≡ with_piece at (flat_map f xs) old) × (length (flat_map f xs) ≡ w * n)
written_all f w n xs at old new i known size done most =
    let all : take i xs ≡ xs = take_all i xs (omega (arith, size, done)) in
    let e : i ≡ n = omega (arith, done, most) in
    (rw all at known.bytes, rw (all, e) at known.size)

-- seven pieces that cover all bytes
pub seven_pieces : (a b c d e f g bytes : List ℕ) (i j k l m n : ℕ) → length a ≡ i → i + length b ≡ j → j + length c ≡ k → k + length d ≡ l → l + length e ≡ m → m + length f ≡ n →
    n + length g ≡ length bytes →
    with_piece n g (with_piece m f (with_piece l e (with_piece k d (with_piece j c (with_piece i b (with_piece 0 a bytes)))))) ≡ a ++ b ++ c ++ d ++ e ++ f ++ g
seven_pieces a b c d e f g bytes i j k l m n hi hj hk hl hm hn size =
    let one = next_piece a b bytes i hi (omega (arith, hj, hk, hl, hm, hn, size)) in
    let two = next_piece (a ++ b) c bytes j (length-append a b ∙ omega (arith, hi, hj)) (omega (arith, hk, hl, hm, hn, size)) in
    let three = next_piece (a ++ b ++ c) d bytes k (omega (arith, length-append a b, length-append (a ++ b) c, hi, hj, hk)) (omega (arith, hl, hm, hn, size)) in
    let four = next_piece (a ++ b ++ c ++ d) e bytes l (omega (arith, length-append a b, length-append (a ++ b) c, length-append (a ++ b ++ c) d, hi, hj, hk, hl)) (omega (arith, hm, hn, size)) in
    let to_e : length (a ++ b ++ c ++ d ++ e) ≡ m =
    omega (arith, length-append a b, length-append (a ++ b) c, length-append (a ++ b ++ c) d, length-append (a ++ b ++ c ++ d) e, hi, hj, hk, hl, hm) in
    let five = next_piece (a ++ b ++ c ++ d ++ e) f bytes m to_e (omega (arith, hn, size)) in
    let to_f : length (a ++ b ++ c ++ d ++ e ++ f) ≡ n = omega (arith, to_e, length-append (a ++ b ++ c ++ d ++ e) f, hn) in
    let six = next_piece (a ++ b ++ c ++ d ++ e ++ f) g bytes n to_f (omega (arith, size)) in
    rw (one, two, three, four, five, six) (with_piece_all (a ++ b ++ c ++ d ++ e ++ f ++ g) bytes (omega (arith, to_f, length-append (a ++ b ++ c ++ d ++ e ++ f) g, size)))
  where
    next_piece : (front piece bytes : List ℕ) (at : ℕ) → length front ≡ at → at ≤ length bytes → with_piece at piece (with_piece 0 front bytes) ≡ with_piece 0 (front ++ piece) bytes
    next_piece front piece bytes at size inside =
        let e : at ≡ 0 + length front = omega (arith, size) in
        rw e (with_pieces 0 front piece bytes (omega (arith, size, inside)))

-- ---- tables that may be absent, start state by start state

-- the tables of the states below n are written from offset `from` on, and the next table goes to offset `place`
pub record AreWrittenTo (f : ℕ → Option (List (List ℕ))) (from place : ℕ) (old new : List ℕ) (n : ℕ) : Type 0 where
  pub bytes : new ≡ with_piece from (flat_map maybe_bytes (values_below n f)) old
  pub size : length (flat_map maybe_bytes (values_below n f)) ≡ table_count * total_below n (λ s. cond (is_some (f s)) 1 0)
  pub at : place ≡ from + table_count * total_below n (λ s. cond (is_some (f s)) 1 0)
  pub same : length new ≡ length old

pub maybes_none : (f : ℕ → Option (List (List ℕ))) (from : ℕ) (old : List ℕ) → AreWrittenTo f from from old old 0
unfolding with_piece total_below
maybes_none f from old = record {
  bytes =
      let e : from + 0 ≡ from = omega arith in
      rw e (sym (ap (λ l. l ++ drop from old) (append-nil (take from old)) ∙ take-append-drop from old));
  size = refl;
  at = omega arith;
  same = refl;
}

-- a state without a table
pub maybe_none : (f : ℕ → Option (List (List ℕ))) (from place : ℕ) (old new : List ℕ) (n : ℕ) → AreWrittenTo f from place old new n → f n ≡ None →
    AreWrittenTo f from place old new (n + 1)
unfolding maybe_bytes
maybe_none f from place old new n known none =
    let bytes : flat_map maybe_bytes (values_below (n + 1) f) ≡ flat_map maybe_bytes (values_below n f) =
    one_more n f ∙ ap (λ m. flat_map maybe_bytes (values_below n f) ++ maybe_bytes m) none ∙ append-nil (flat_map maybe_bytes (values_below n f)) in
    let count = total_below_more n (λ s. cond (is_some (f s)) 1 0) in
    let zero : cond {A = ℕ} (is_some (f n)) 1 0 ≡ 0 = ap {B = ℕ} (λ m. cond (is_some m) 1 0) none in
    record {
      bytes = rw bytes known.bytes;
      size = omega (arith, ap length bytes, known.size, count, zero);
      at = omega (arith, known.at, count, zero);
      same = known.same;
    }

-- a state with a table
pub maybe_some : (f : ℕ → Option (List (List ℕ))) (from place : ℕ) (old new next : List ℕ) (n : ℕ) (table : List (List ℕ)) → AreWrittenTo f from place old new n →
    f n ≡ Some table → length (table_bytes table) ≡ table_count → place + table_count ≤ length old → next ≡ with_piece place (table_bytes table) new →
    AreWrittenTo f from (place + table_count) old next (n + 1)
unfolding maybe_bytes
maybe_some f from place old new next n table known some wide room e =
    let front : List ℕ = flat_map maybe_bytes (values_below n f) in
    let bytes : flat_map maybe_bytes (values_below (n + 1) f) ≡ front ++ table_bytes table = one_more n f ∙ ap (λ m. front ++ maybe_bytes m) some in
    let count = total_below_more n (λ s. cond (is_some (f s)) 1 0) in
    let one : cond {A = ℕ} (is_some (f n)) 1 0 ≡ 1 = ap {B = ℕ} (λ m. cond (is_some m) 1 0) some in
    let long = length-append front (table_bytes table) in
    let place_is : place ≡ from + length front = omega (arith, known.at, known.size) in
    let whole : next ≡ with_piece from (front ++ table_bytes table) old =
    e ∙ ap (λ l. with_piece place (table_bytes table) l) known.bytes ∙ ap (λ p. with_piece p (table_bytes table) (with_piece from front old)) place_is
    ∙ with_pieces from front (table_bytes table) old (omega (arith, place_is, room)) in
    record {
      bytes = rw bytes whole;
      size = omega (arith, ap length bytes, long, wide, known.size, count, one);
      at = omega (arith, known.at, count, one);
      same = ap length whole ∙ length-with_piece from (front ++ table_bytes table) old (omega (arith, long, wide, place_is, room));
    }
