-- Bytes determine their content.
use Rattle.std.proofs.Common.{◌≡◌, ℕ, zero, suc, ◌+◌, ◌*◌, ◌-◌, ◌/◌, ◌^◌, ◌<◌, ◌≤◌, Bool, false, cond, List, [], ◌∷◌, ◌++◌, Option, Some, None, length, take, drop, get_or, ℤ, pos, negsuc, refl, sym, subst, ap, ◌∙◌, arith, add-one}
use Rattle.std.specs.Prelude.{All, is_some, nat_abs}
use Rattle.std.specs.List.{flat_map}
use Rattle.std.specs.Int.{w16, cast_unsigned, cast_signed}
use Rattle.std.proofs.lemmas.Int.{to_z-of_z}
use Rattle.std.proofs.lemmas.List.{length-append, take_at, drop_at}
use Rattle.byteorder.specs.Endian.{little_bytes, little_number, big_bytes, big_number}
use Rattle.byteorder.specs.Numbers.{little_number-reads_back}
use Rattle.finite.specs.Bits.{odd}
use Rattle.finite.specs.Lists.{values_below}
use Rattle.finite.specs.Sums.{total_below}
use Rattle.finite.proofs.Lists.{values_below-length, values_below_at, values_below_is}
use Rattle.finite.proofs.Sums.{total_below_none, total_below_more}
use Rattle.cs_bits.specs.Numbers.{number}
use Rattle.cs_bits.proofs.Numbers.{number_below, number_same, word_bit}
use Rattle.tail_cert.specs.Certificate.{Counted, Held, IsMaybeTable, IsRow, IsTable, IsTriple, IsWhole, tables_there}
use Rattle.tail_cert.specs.Form.{bytes_of, entry_bytes, head_count, mark, maybe_bytes, place_bytes, row_bytes, set_bytes, set_of, table_bytes, table_count, value_bytes, word_bytes}
use Rattle.tail_cert.proofs.Pieces.{one_more}
use Rattle.tail_cert.proofs.Values.{fits_16}

-- f writes each element with property P in w bytes, and the bytes determine the element
pub record IsCode {A : Type 0} (P : A → Type 0) (f : A → List ℕ) (w : ℕ) : Type 0 where
  pub size : (x : A) → P x → length (f x) ≡ w
  pub same : (x y : A) → P x → P y → f x ≡ f y → x ≡ y

-- equal lists whose first parts have equal lengths have equal parts
pub same_parts : (a a' b b' : List ℕ) → length a ≡ length a' → a ++ b ≡ a' ++ b' → (a ≡ a') × (b ≡ b')
same_parts a a' b b' size e = (
  sym (take_at a b (length a) refl) ∙ ap (take (length a)) e ∙ take_at a' b' (length a) (sym size),
  sym (drop_at a b (length a) refl) ∙ ap (drop (length a)) e ∙ drop_at a' b' (length a) (sym size),
)

list_size : {A : Type 0} (P : A → Type 0) (f : A → List ℕ) (w : ℕ) → IsCode P f w → (xs : List A) → All P xs → length (flat_map f xs) ≡ w * length xs
list_size P f w code [] h = omega arith
list_size P f w code (x ∷ xs) h =
    let first = code.size x (h 0 x (omega arith)) in
    let rest = list_size P f w code xs (λ i d l. h (suc i) d (omega arith)) in
    let long = length-append (f x) (flat_map f xs) in
    let times : w * suc (length xs) ≡ w * length xs + w = omega arith in
    omega (arith, first, rest, long, times)

list_same : {A : Type 0} (P : A → Type 0) (f : A → List ℕ) (w : ℕ) → IsCode P f w → (xs ys : List A) → length xs ≡ length ys → All P xs → All P ys →
    flat_map f xs ≡ flat_map f ys → xs ≡ ys
list_same P f w code [] [] e p q h = refl
list_same P f w code [] (y ∷ ys) e p q h = absurd (omega arith)
list_same P f w code (x ∷ xs) [] e p q h = absurd (omega arith)
list_same P f w code (x ∷ xs) (y ∷ ys) e p q h =
    let px = p 0 x (omega arith) in
    let py = q 0 y (omega arith) in
    let parts = same_parts (f x) (f y) (flat_map f xs) (flat_map f ys) (code.size x px ∙ sym (code.size y py)) h in
    let here : x ≡ y = code.same x y px py parts.0 in
    let rest : xs ≡ ys = list_same P f w code xs ys (omega arith) (λ i d l. p (suc i) d (omega arith)) (λ i d l. q (suc i) d (omega arith)) parts.1 in
    rw (here, rest) refl

pub list_code : {A : Type 0} (P : A → Type 0) (f : A → List ℕ) (w n : ℕ) → IsCode P f w → IsCode (Counted n P) (flat_map f) (w * n)
list_code P f w n code = record {
  size = λ xs h. list_size P f w code xs h.all ∙ ap (λ m. w * m) h.count;
  same = λ xs ys p q e. list_same P f w code xs ys (p.count ∙ sym q.count) p.all q.all e;
}

-- ---- numbers

little_back : (n : ℕ) → n < 2 ^ 32 → little_number 4 (little_bytes 4 n) ≡ n
little_back n h = omega arith

little_back_2 : (n : ℕ) → n < 2 ^ 16 → little_number 2 (little_bytes 2 n) ≡ n
little_back_2 n h = omega arith

big_back : (n : ℕ) → n < 2 ^ 40 → big_number 5 (big_bytes 5 n) ≡ n
big_back n h = omega arith

bits_below : (z : ℤ) → nat_abs z ≤ 2032 → cast_unsigned w16 z < 2 ^ 16
bits_below (pos n) h = omega arith
bits_below (negsuc n) h = omega arith

-- a value is read back from its bytes
pub value_back : (z : ℤ) → nat_abs z ≤ 2032 → cast_signed w16 (little_number 2 (value_bytes z)) ≡ z
unfolding value_bytes
value_back z h = ap (cast_signed w16) (little_back_2 (cast_unsigned w16 z) (bits_below z h)) ∙ to_z-of_z w16 z (fits_16 z h)

pub value_code : IsCode (λ z. nat_abs z ≤ 2032) value_bytes 2
unfolding value_bytes
value_code = record {
  size = λ z h. refl;
  same = λ y z p q e. sym (value_back y p) ∙ ap (λ l. cast_signed w16 (little_number 2 l)) e ∙ value_back z q;
}

entry_code : IsCode (λ n. n < 2 ^ 32) entry_bytes 4
unfolding entry_bytes
entry_code = record {
  size = λ n h. refl;
  same = λ m n p q e. sym (little_back m p) ∙ ap (little_number 4) e ∙ little_back n q;
}

number_small : (w : List Bool) → length w ≡ 40 → number w < 2 ^ 40
number_small w e = let below = number_below w in rw e at below

word_code : IsCode (λ w. length w ≡ 40) word_bytes 5
unfolding word_bytes
word_code = record {
  size = λ w h. refl;
  same = λ u w p q e. number_same u w (p ∙ sym q)
      (sym (big_back (number u) (number_small u p)) ∙ ap (big_number 5) e ∙ big_back (number w) (number_small w q));
}

pub place_code : IsCode IsTriple place_bytes 6
unfolding place_bytes
place_code = list_code (λ z. nat_abs z ≤ 2032) value_bytes 2 3 value_code

row_code : IsCode IsRow row_bytes 256
unfolding row_bytes
row_code = list_code (λ n. n < 2 ^ 32) entry_bytes 4 64 entry_code

table_code : IsCode IsTable table_bytes 10240
unfolding table_bytes
table_code = list_code IsRow row_bytes 256 40 row_code

values_code : IsCode (Counted 40 IsTriple) (flat_map place_bytes) 240
values_code = list_code IsTriple place_bytes 6 40 place_code

-- ---- the set of start states that have a table

-- a 64-bit set is read back from its bytes
pub set_back : (tables : List (Option (List (List ℕ)))) (more : List ℕ) → little_number 8 (set_bytes tables ++ more) ≡ number (set_of tables)
unfolding set_bytes set_of
set_back tables more =
    let states : length (set_of tables) ≡ 64 = values_below-length 64 (λ i. is_some (get_or tables (63 - i) None)) in
    let below = number_below (set_of tables) in
    little_number-reads_back 8 (number (set_of tables)) more (rw states at below)

pub set_size : (tables : List (Option (List (List ℕ)))) → length (set_bytes tables) ≡ 8
unfolding set_bytes
set_size tables = refl

-- the set says for each start state whether it has a table
pub set_tells : (tables : List (Option (List (List ℕ)))) (s : ℕ) → s < 64 → odd (number (set_of tables) / 2 ^ s) ≡ is_some (get_or tables s None)
unfolding set_of
set_tells tables s below =
    let states : length (set_of tables) ≡ 64 = values_below-length 64 (λ i. is_some (get_or tables (63 - i) None)) in
    let bit = word_bit (set_of tables) (63 - s) (omega (arith, states, below)) in
    let power : length (set_of tables) - 1 - (63 - s) ≡ s = omega (arith, states, below) in
    let back : 63 - (63 - s) ≡ s = omega (arith, below) in
    ap (λ n. odd (number (set_of tables) / 2 ^ n)) (sym power) ∙ sym bit
    ∙ values_below_at (λ i. is_some (get_or tables (63 - i) None)) 64 (63 - s) false (omega (arith, below)) ∙ ap (λ k. is_some (get_or tables k None)) back

-- ---- tables that may be absent

maybe_size : (maybe : Option (List (List ℕ))) → IsMaybeTable maybe → length (maybe_bytes maybe) ≡ table_count * cond (is_some maybe) 1 0
unfolding maybe_bytes
maybe_size None h = refl
maybe_size (Some table) h = table_code.size table h

first_maybes : (n : ℕ) (f : ℕ → Option (List (List ℕ))) → ((s : ℕ) → s < n → IsMaybeTable (f s)) →
    length (flat_map maybe_bytes (values_below n f)) ≡ table_count * total_below n (λ s. cond (is_some (f s)) 1 0)
first_maybes zero f h = rw (total_below_none (λ s. cond (is_some (f s)) 1 0)) refl
first_maybes (suc n) f h =
    let before = first_maybes n f (λ s below. h s (omega (arith, below))) in
    let here = maybe_size (f n) (h n (omega arith)) in
    let count = total_below_more n (λ s. cond (is_some (f s)) 1 0) in
    subst (λ m. length (flat_map maybe_bytes (values_below m f)) ≡ table_count * total_below m (λ s. cond (is_some (f s)) 1 0)) (add-one n) (more_maybes n f before here count)
  where
    more_maybes : (n : ℕ) (f : ℕ → Option (List (List ℕ))) →
        length (flat_map maybe_bytes (values_below n f)) ≡ table_count * total_below n (λ s. cond (is_some (f s)) 1 0) →
        length (maybe_bytes (f n)) ≡ table_count * cond (is_some (f n)) 1 0 →
        total_below (n + 1) (λ s. cond (is_some (f s)) 1 0) ≡ total_below n (λ s. cond (is_some (f s)) 1 0) + cond (is_some (f n)) 1 0 →
        length (flat_map maybe_bytes (values_below (n + 1) f)) ≡ table_count * total_below (n + 1) (λ s. cond (is_some (f s)) 1 0)
    more_maybes n f before here count =
        omega (arith, ap length (one_more n f), length-append (flat_map maybe_bytes (values_below n f)) (maybe_bytes (f n)), before, here, count)

pub maybes_size : (tables : List (Option (List (List ℕ)))) → Counted 64 IsMaybeTable tables → length (flat_map maybe_bytes tables) ≡ table_count * tables_there tables
maybes_size tables h =
    let size = h.count in
    let is : tables ≡ values_below 64 (λ s. get_or tables s None) = values_below_is None 64 (λ s. get_or tables s None) tables size (λ s below. refl) in
    ap (λ l. length (flat_map maybe_bytes l)) is ∙ first_maybes 64 (λ s. get_or tables s None) (λ s below. h.all s None (omega (arith, size, below)))

-- if the same tables are present, their bytes determine them
maybes_same : (xs ys : List (Option (List (List ℕ)))) → length xs ≡ length ys → ((s : ℕ) → s < length xs → is_some (get_or xs s None) ≡ is_some (get_or ys s None)) →
    All IsMaybeTable xs → All IsMaybeTable ys → flat_map maybe_bytes xs ≡ flat_map maybe_bytes ys → xs ≡ ys
unfolding maybe_bytes
maybes_same [] [] size there p q e = refl
maybes_same [] (y ∷ ys) size there p q e = absurd (omega (arith, size))
maybes_same (x ∷ xs) [] size there p q e = absurd (omega (arith, size))
maybes_same (None ∷ xs) (None ∷ ys) size there p q e =
    let rest : xs ≡ ys = maybes_same xs ys (omega (arith, size)) (λ s l. there (suc s) (omega (arith, l))) (λ i d l. p (suc i) d (omega (arith, l))) (λ i d l. q (suc i) d (omega (arith, l))) e in
    rw rest refl
maybes_same (None ∷ xs) (Some u ∷ ys) size there p q e = let f = there 0 (omega arith) in absurd (cc f)
maybes_same (Some t ∷ xs) (None ∷ ys) size there p q e = let f = there 0 (omega arith) in absurd (cc f)
maybes_same (Some t ∷ xs) (Some u ∷ ys) size there p q e =
    let pt : IsTable t = p 0 None (omega arith) in
    let qu : IsTable u = q 0 None (omega arith) in
    let parts = same_parts (table_bytes t) (table_bytes u) (flat_map maybe_bytes xs) (flat_map maybe_bytes ys) (table_code.size t pt ∙ sym (table_code.size u qu)) e in
    let here : t ≡ u = table_code.same t u pt qu parts.0 in
    let rest : xs ≡ ys = maybes_same xs ys (omega (arith, size)) (λ s l. there (suc s) (omega (arith, l))) (λ i d l. p (suc i) d (omega (arith, l))) (λ i d l. q (suc i) d (omega (arith, l))) parts.1 in
    rw (here, rest) refl

-- ---- complete certificates

-- the parts up to the values, the word, the cost, the general table and the set, with their lengths
abbrev to_values : Held → List ℕ
to_values c = mark ++ flat_map place_bytes c.values

abbrev to_word : Held → List ℕ
to_word c = to_values c ++ word_bytes c.word

abbrev to_cost : Held → List ℕ
to_cost c = to_word c ++ entry_bytes c.cost

abbrev pub to_general : Held → List ℕ
to_general c = to_cost c ++ table_bytes c.general

abbrev pub head_of : Held → List ℕ
head_of c = to_general c ++ set_bytes c.tables

pub record HaveSizes (c : Held) : Type 0 where
  pub values : length (to_values c) ≡ 244
  pub word : length (to_word c) ≡ 249
  pub cost : length (to_cost c) ≡ 253
  pub general : length (to_general c) ≡ 10493
  pub set : length (head_of c) ≡ 10501

pub sizes_of : (c : Held) → IsWhole c → HaveSizes c
sizes_of c h =
    let v = values_code.size c.values h.places in
    let w = word_code.size c.word h.bits in
    let e = entry_code.size c.cost h.fits in
    let g = table_code.size c.general h.general in
    let s = set_size c.tables in
    let l1 = length-append mark (flat_map place_bytes c.values) in
    let l2 = length-append (to_values c) (word_bytes c.word) in
    let l3 = length-append (to_word c) (entry_bytes c.cost) in
    let l4 = length-append (to_cost c) (table_bytes c.general) in
    let l5 = length-append (to_general c) (set_bytes c.tables) in
    let values : length (to_values c) ≡ 244 = omega (arith, v, l1) in
    let word : length (to_word c) ≡ 249 = omega (arith, values, w, l2) in
    let cost : length (to_cost c) ≡ 253 = omega (arith, word, e, l3) in
    let general : length (to_general c) ≡ 10493 = omega (arith, cost, g, l4) in
    record { values = values; word = word; cost = cost; general = general; set = omega (arith, general, s, l5) }

-- the length of a certificate
pub length-bytes_of : (c : Held) → IsWhole c → length (bytes_of c) ≡ head_count + table_count * tables_there c.tables
unfolding bytes_of
length-bytes_of c h =
    let head = (sizes_of c h).set in
    let rest = maybes_size c.tables h.starts in
    omega (arith, head, rest, length-append (head_of c) (flat_map maybe_bytes c.tables))

-- certificates with equal bytes are equal
pub same_certificate : (c d : Held) → IsWhole c → IsWhole d → bytes_of c ≡ bytes_of d → c ≡ d
unfolding bytes_of
same_certificate c d p q e =
    let s = sizes_of c p in
    let r = sizes_of d q in
    let one = same_parts (head_of c) (head_of d) (flat_map maybe_bytes c.tables) (flat_map maybe_bytes d.tables) (s.set ∙ sym r.set) e in
    let two = same_parts (to_general c) (to_general d) (set_bytes c.tables) (set_bytes d.tables) (s.general ∙ sym r.general) one.0 in
    let three = same_parts (to_cost c) (to_cost d) (table_bytes c.general) (table_bytes d.general) (s.cost ∙ sym r.cost) two.0 in
    let four = same_parts (to_word c) (to_word d) (entry_bytes c.cost) (entry_bytes d.cost) (s.word ∙ sym r.word) three.0 in
    let five = same_parts (to_values c) (to_values d) (word_bytes c.word) (word_bytes d.word) (s.values ∙ sym r.values) four.0 in
    let six = same_parts mark mark (flat_map place_bytes c.values) (flat_map place_bytes d.values) refl five.0 in
    let values_is : c.values ≡ d.values = values_code.same c.values d.values p.places q.places six.1 in
    let word_is : c.word ≡ d.word = word_code.same c.word d.word p.bits q.bits five.1 in
    let cost_is : c.cost ≡ d.cost = entry_code.same c.cost d.cost p.fits q.fits four.1 in
    let general_is : c.general ≡ d.general = table_code.same c.general d.general p.general q.general three.1 in
    let number_is : number (set_of c.tables) ≡ number (set_of d.tables) =
    sym (set_back c.tables []) ∙ ap (λ l. little_number 8 (l ++ [])) two.1 ∙ set_back d.tables [] in
    let count = p.starts.count in
    let tables_is : c.tables ≡ d.tables = maybes_same c.tables d.tables (p.starts.count ∙ sym q.starts.count)
    (λ k below. sym (set_tells c.tables k (omega (arith, count, below))) ∙ ap (λ n. odd (n / 2 ^ k)) number_is ∙ set_tells d.tables k (omega (arith, count, below)))
    p.starts.all q.starts.all one.1 in
    held_same c d values_is word_is cost_is general_is tables_is
  where
    held_same : (c d : Held) → c.values ≡ d.values → c.word ≡ d.word → c.cost ≡ d.cost → c.general ≡ d.general → c.tables ≡ d.tables → c ≡ d
    held_same c d a b e g f =
        let x : Held = record { values = c.values; word = c.word; cost = c.cost; general = c.general; tables = c.tables } in
        let y : x ≡ d = rw (a, b, e, g, f) refl in y
