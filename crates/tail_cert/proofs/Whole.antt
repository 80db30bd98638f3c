-- The bytes of a certificate have no format error.
use Rattle.std.proofs.Common.{◌≡◌, ℕ, zero, suc, ◌+◌, ◌*◌, ◌-◌, ◌/◌, ◌%◌, ◌^◌, ◌<◌, ◌≤◌, min, Bool, true, false, cond, List, [], ◌∷◌, ◌++◌, None, length, take, drop, get_or, ℤ, pos, refl, sym, ap, ◌∙◌, inl, inr, arith}
use Rattle.std.specs.Prelude.{All, is_some, nat_abs}
use Rattle.std.specs.List.{flat_map}
use Rattle.std.proofs.lemmas.List.{append_assoc, drop-append-le, drop_at, length-append, length-drop, length-take-le, take-append-drop, take-take, get_or_append_left, get_or-append-add, get_or-drop}
use Rattle.byteorder.specs.Endian.{little_number}
use Rattle.byteorder.specs.Numbers.{little_from-append}
use Rattle.finite.specs.Bits.{odd}
use Rattle.finite.specs.Sums.{total_below}
use Rattle.finite.proofs.Sums.{total_below_same, total_below-within}
use Rattle.cs_bits.specs.Numbers.{number}
use Rattle.tail_cert.specs.Certificate.{Held, IsTriple, IsWhole}
use Rattle.tail_cert.specs.Form.{IsUnbrokenUpTo, bytes_of, count_of, entry_bytes, head_count, mark, maybe_bytes, most_count, place_bytes, set_bytes, set_of, table_bytes, table_count, tells_table, value_at, value_bytes, word_bytes}
use Rattle.tail_cert.proofs.Breaks.{count_least}
use Rattle.tail_cert.proofs.Codes.{IsCode, length-bytes_of, place_code, set_back, set_tells, sizes_of, to_general, value_code, value_back}

-- byte r of element i
code_at : {A : Type 0} (P : A → Type 0) (f : A → List ℕ) (w : ℕ) → IsCode P f w → (xs : List A) (i r : ℕ) (d : A) → All P xs → i < length xs → r < w →
    get_or (flat_map f xs) (w * i + r) 0 ≡ get_or (f (get_or xs i d)) r 0
code_at P f w code [] i r d h inside below = absurd (omega arith)
code_at P f w code (x ∷ xs) zero r d h inside below =
    let size = code.size x (h 0 x (omega arith)) in
    let e : w * 0 + r ≡ r = omega arith in
    rw e (get_or_append_left (f x) (flat_map f xs) 0 r (omega (arith, size, below)))
code_at P f w code (x ∷ xs) (suc i) r d h inside below =
    let size = code.size x (h 0 x (omega arith)) in
    let times : w * suc i ≡ w + w * i = omega arith in
    let e : w * suc i + r ≡ length (f x) + (w * i + r) = omega (arith, times, size) in
    rw e (get_or-append-add (f x) (flat_map f xs) (w * i + r) 0 ∙ code_at P f w code xs i r d (λ k d' l. h (suc k) d' (omega arith)) (omega arith) below)

mark_first : (c : Held) (p : ℕ) → p < 4 → get_or (bytes_of c) p 0 ≡ get_or mark p 0
unfolding bytes_of
mark_first c zero h = refl
mark_first c (suc zero) h = refl
mark_first c (suc (suc zero)) h = refl
mark_first c (suc (suc (suc zero))) h = refl
mark_first c (suc (suc (suc (suc p)))) h = absurd (omega arith)

front_at : (a b c d e f : List ℕ) (n : ℕ) → n < length a → get_or (a ++ b ++ c ++ d ++ e ++ f) n 0 ≡ get_or a n 0
front_at a b c d e f n h =
    let ab = length-append a b in
    let abc = length-append (a ++ b) c in
    let abcd = length-append (a ++ b ++ c) d in
    let abcde = length-append (a ++ b ++ c ++ d) e in
    get_or_append_left (a ++ b ++ c ++ d ++ e) f 0 n (omega (arith, ab, abc, abcd, abcde, h)) ∙ get_or_append_left (a ++ b ++ c ++ d) e 0 n (omega (arith, ab, abc, abcd, h))
    ∙ get_or_append_left (a ++ b ++ c) d 0 n (omega (arith, ab, abc, h)) ∙ get_or_append_left (a ++ b) c 0 n (omega (arith, ab, h)) ∙ get_or_append_left a b 0 n h

-- value j, in the order of the bytes
value_of : Held → ℕ → ℤ
value_of c j = get_or (get_or c.values (j / 3) []) (j % 3) (pos 0)

small_value : (c : Held) → IsWhole c → (j : ℕ) → j < 120 → nat_abs (value_of c j) ≤ 2032
unfolding value_of
small_value c h j below =
    let places = h.places.count in
    let place : IsTriple (get_or c.values (j / 3) []) = h.places.all (j / 3) [] (omega (arith, places)) in
    let three = place.count in
    place.all (j % 3) (pos 0) (omega (arith, three))

byte_of_value : (c : Held) → IsWhole c → (j r : ℕ) → j < 120 → r < 2 → get_or (bytes_of c) (4 + 2 * j + r) 0 ≡ get_or (value_bytes (value_of c j)) r 0
unfolding bytes_of value_of place_bytes
byte_of_value c h j r below two =
    let values : List ℕ = flat_map place_bytes c.values in
    let places = h.places.count in
    let place : IsTriple (get_or c.values (j / 3) []) = h.places.all (j / 3) [] (omega (arith, places)) in
    let three = place.count in
    let front = (sizes_of c h).values in
    let inside : 4 + 2 * j + r < length (mark ++ values) = omega (arith, front) in
    let e : 4 + 2 * j + r ≡ length mark + (6 * (j / 3) + (2 * (j % 3) + r)) = omega arith in
    let one = front_at (mark ++ values) (word_bytes c.word) (entry_bytes c.cost) (table_bytes c.general) (set_bytes c.tables) (flat_map maybe_bytes c.tables) (4 + 2 * j + r) inside in
    let two' : get_or (mark ++ values) (4 + 2 * j + r) 0 ≡ get_or values (6 * (j / 3) + (2 * (j % 3) + r)) 0 =
    rw e (get_or-append-add mark values (6 * (j / 3) + (2 * (j % 3) + r)) 0) in
    let outer = code_at IsTriple place_bytes 6 place_code c.values (j / 3) (2 * (j % 3) + r) [] h.places.all (omega (arith, places)) (omega arith) in
    let inner = code_at (λ z. nat_abs z ≤ 2032) value_bytes 2 value_code (get_or c.values (j / 3) []) (j % 3) r (pos 0) place.all (omega (arith, three)) two in
    one ∙ two' ∙ outer ∙ inner

value_there : (c : Held) → IsWhole c → (j : ℕ) → j < 120 → value_at (bytes_of c) (4 + 2 * j) ≡ value_of c j
unfolding value_at
value_there c h j below =
    let b0 : get_or (drop (4 + 2 * j) (bytes_of c)) 0 0 ≡ get_or (value_bytes (value_of c j)) 0 0 =
    get_or-drop (4 + 2 * j) (bytes_of c) 0 0 ∙ byte_of_value c h j 0 below (omega arith) in
    let b1 : get_or (drop (4 + 2 * j) (bytes_of c)) 1 0 ≡ get_or (value_bytes (value_of c j)) 1 0 =
    get_or-drop (4 + 2 * j) (bytes_of c) 1 0 ∙ byte_of_value c h j 1 below (omega arith) in
    rw (b0, b1) (value_back (value_of c j) (small_value c h j below))

-- ---- a certificate's length follows from its first bytes

-- appended bytes do not change the length
pub count_longer : (bytes more : List ℕ) → head_count ≤ length bytes → count_of (bytes ++ more) ≡ count_of bytes
unfolding count_of
count_longer bytes more long =
    let split : drop 10493 (bytes ++ more) ≡ drop 10493 bytes ++ more = drop-append-le 10493 bytes more (omega (arith, long)) in
    let set = ap (little_number 8) split ∙ little_from-append 8 (drop 10493 bytes) more (omega (arith, long, length-drop 10493 bytes)) in
    ap (λ n. head_count + table_count * total_below 64 (λ s. cond (odd (n / 2 ^ s)) 1 0)) set

-- the bytes of a certificate have the length that they state
pub count_whole : (c : Held) → IsWhole c → count_of (bytes_of c) ≡ length (bytes_of c)
unfolding bytes_of count_of
count_whole c h =
    let general = (sizes_of c h).general in
    let split : drop 10493 (bytes_of c) ≡ set_bytes c.tables ++ flat_map maybe_bytes c.tables =
    ap (drop 10493) (append_assoc (to_general c) (set_bytes c.tables) (flat_map maybe_bytes c.tables)) ∙ drop_at (to_general c) (set_bytes c.tables ++ flat_map maybe_bytes c.tables) 10493 general in
    let set : little_number 8 (drop 10493 (bytes_of c)) ≡ number (set_of c.tables) = ap (little_number 8) split ∙ set_back c.tables (flat_map maybe_bytes c.tables) in
    let many = total_below_same 64 (λ s. cond (tells_table (bytes_of c) s) 1 0) (λ s. cond (is_some (get_or c.tables s None)) 1 0)
    (λ s below. ap {B = ℕ} (λ b. cond b 1 0) (ap (λ n. odd (n / 2 ^ s)) set ∙ set_tells c.tables s below)) in
    ap (λ n. head_count + table_count * n) many ∙ sym (length-bytes_of c h)

pub whole_unbroken : (c : Held) → IsWhole c → IsUnbrokenUpTo (count_of (bytes_of c)) (bytes_of c)
whole_unbroken c h p (inl (a, b, off)) = absurd (off (mark_first c p a))
whole_unbroken c h p (inr (inl (low, high, even, room, large))) =
    let j : ℕ = (p - 4) / 2 in
    let e : p ≡ 4 + 2 * j = omega arith in
    let below : j < 120 = omega arith in
    let large' = rw (value_there c h j below) at (rw e at large) in
    let small = small_value c h j below in
    absurd (omega (arith, large', small))
whole_unbroken c h p (inr (inr (end, early))) = absurd (omega (arith, end, early, count_whole c h))

-- the first bytes suffice for the length
pub count_of_front : (bytes : List ℕ) → head_count ≤ length bytes → count_of bytes ≡ count_of (take head_count bytes)
count_of_front bytes long =
    let size = length-take-le head_count bytes long in
    ap count_of (sym (take-append-drop head_count bytes)) ∙ count_longer (take head_count bytes) (drop head_count bytes) (omega (arith, size))

-- the stated length is at most that of the longest certificate
pub count_most : (bytes : List ℕ) → count_of bytes ≤ most_count
unfolding count_of
count_most bytes =
    let tables = total_below-within 64 1 (λ s. cond (tells_table bytes s) 1 0) (λ s below. at_most_one (tells_table bytes s)) in
    omega (arith, tables)
  where
    at_most_one : (b : Bool) → cond b 1 0 ≤ 1
    at_most_one true = omega arith
    at_most_one false = omega arith

-- bytes cut to the length that their first bytes state are no longer than they state themselves
pub front_fits : (bytes : List ℕ) (whole : ℕ) → head_count ≤ length bytes → whole ≡ count_of (take (min (length bytes) head_count) bytes) →
    length (take (min (length bytes) whole) bytes) ≤ count_of (take (min (length bytes) whole) bytes)
front_fits bytes whole long decoded =
    let least = count_least (take head_count bytes) in
    let head : min (length bytes) head_count ≡ head_count = omega (arith, long) in
    let decoded' : whole ≡ count_of (take head_count bytes) = rw head at decoded in
    let n : ℕ = min (length bytes) whole in
    let size = length-take-le n bytes (omega arith) in
    let front = count_of_front (take n bytes) (omega (arith, size, long, decoded', least)) in
    let same : take head_count (take n bytes) ≡ take head_count bytes = take-take head_count n bytes (omega (arith, long, decoded', least)) in
    omega (arith, size, front, ap count_of same, decoded')
