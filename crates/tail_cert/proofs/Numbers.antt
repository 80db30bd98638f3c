-- Numbers read from bytes are written as those bytes.
use Rattle.std.proofs.Common.{◌≡◌, ℕ, ◌+◌, ◌*◌, ◌/◌, ◌%◌, ◌^◌, ◌<◌, ◌≤◌, List, [], ◌∷◌, length, take, drop, get_or, ◌++◌, take-append-drop, drop-drop, length-drop, sym, suc, inl, inr, Fits, w8, refl, ap, ◌∙◌, arith}
use Rattle.std.specs.Int.{w16, w32, cast_unsigned, cast_signed}
use Rattle.std.proofs.Math.Facts.{sfits_to_z, sfits_widen}
use Rattle.std.proofs.lemmas.Int.{of_z-to_z, to_z-of_z}
use Rattle.std.proofs.lemmas.List.{get_or-drop, get_or-take, get_or_past, length-take}
use Rattle.std.proofs.lemmas.Bool.{cases_lt}
use Rattle.std.specs.List.{flat_map}
use Rattle.std.proofs.lemmas.List.Concat.{flat_map-cons}
use Rattle.byteorder.specs.Endian.{IsRead, little_bytes, little_number, big_bytes, big_number}

pub rest_bytes : (bytes : List ℕ) (at : ℕ) → ((i : ℕ) → Fits w8 (get_or bytes i 0)) → (i : ℕ) → get_or (drop at bytes) i 0 < 256
rest_bytes bytes at fits i = rw (get_or-drop at bytes i 0) (fits (at + i)).fits

pub part_bytes : (bytes : List ℕ) (at n : ℕ) → ((i : ℕ) → Fits w8 (get_or bytes i 0)) → (i : ℕ) → get_or (take n (drop at bytes)) i 0 < 256
part_bytes bytes at n fits i = elim (cases_lt i n) [
  | inl within ↦ rw (get_or-take n (drop at bytes) i 0 within) (rest_bytes bytes at fits i)
  | inr past ↦ rw (get_or_past (take n (drop at bytes)) i 0 (omega (arith, past, length-take n (drop at bytes)))) (omega arith)
]

pub two_bytes : (xs : List ℕ) → 2 ≤ length xs → ((i : ℕ) → get_or xs i 0 < 256) → (little_bytes 2 (little_number 2 xs) ≡ take 2 xs) × (little_number 2 xs < 2 ^ 16)
two_bytes [] l h = absurd (omega arith)
two_bytes (a ∷ []) l h = absurd (omega arith)
two_bytes (a ∷ b ∷ xs) l h =
    let ha : a < 256 = h 0 in
    let hb : b < 256 = h 1 in
    let e0 : (a + 256 * (b + 256 * 0)) % 256 ≡ a = omega arith in
    let e1 : (a + 256 * (b + 256 * 0)) / 256 % 256 ≡ b = omega arith in
    (rw (e0, e1) refl, omega arith)

pub four_bytes : (xs : List ℕ) → 4 ≤ length xs → ((i : ℕ) → get_or xs i 0 < 256) → little_bytes 4 (little_number 4 xs) ≡ take 4 xs
four_bytes [] l h = absurd (omega arith)
four_bytes (a ∷ []) l h = absurd (omega arith)
four_bytes (a ∷ b ∷ []) l h = absurd (omega arith)
four_bytes (a ∷ b ∷ c ∷ []) l h = absurd (omega arith)
four_bytes (a ∷ b ∷ c ∷ d ∷ xs) l h =
    let ha : a < 256 = h 0 in
    let hb : b < 256 = h 1 in
    let hc : c < 256 = h 2 in
    let hd : d < 256 = h 3 in
    let e0 : (a + 256 * (b + 256 * (c + 256 * (d + 256 * 0)))) % 256 ≡ a = omega arith in
    let e1 : (a + 256 * (b + 256 * (c + 256 * (d + 256 * 0)))) / 256 % 256 ≡ b = omega arith in
    let e2 : (a + 256 * (b + 256 * (c + 256 * (d + 256 * 0)))) / 65536 % 256 ≡ c = omega arith in
    let e3 : (a + 256 * (b + 256 * (c + 256 * (d + 256 * 0)))) / 16777216 % 256 ≡ d = omega arith in
    rw (e0, e1, e2, e3) refl

-- numbers of four bytes each, read one after another
pub entries_read : (bytes xs : List ℕ) → length bytes ≡ 4 * length xs → ((i : ℕ) → get_or bytes i 0 < 256) → IsRead little_number 4 bytes xs →
    flat_map (little_bytes 4) xs ≡ bytes
entries_read [] [] size fits h = refl
entries_read (b ∷ bytes) [] size fits h = absurd (omega (arith, size))
entries_read bytes (x ∷ xs) size fits h =
    let first : x ≡ little_number 4 bytes = h 0 (omega arith) in
    let four = four_bytes bytes (omega (arith, size)) fits in
    let rest = entries_read (drop 4 bytes) xs (omega (arith, size, length-drop 4 bytes)) (rest_bytes_of bytes fits) (λ k l.
    let e : 4 * suc k ≡ 4 + 4 * k = omega arith in
    h (suc k) (omega (arith, l)) ∙ ap (λ n. little_number 4 (drop n bytes)) e ∙ ap (little_number 4) (sym (drop-drop (4 * k) 4 bytes))) in
    flat_map-cons (little_bytes 4) x xs ∙ ap (λ n. little_bytes 4 n ++ flat_map (little_bytes 4) xs) first
    ∙ ap (λ l. l ++ flat_map (little_bytes 4) xs) four ∙ ap (λ l. take 4 bytes ++ l) rest ∙ take-append-drop 4 bytes
  where
    rest_bytes_of : (bytes : List ℕ) → ((i : ℕ) → get_or bytes i 0 < 256) → (i : ℕ) → get_or (drop 4 bytes) i 0 < 256
    rest_bytes_of bytes fits i = rw (get_or-drop 4 bytes i 0) (fits (4 + i))

pub eight_bytes : (xs : List ℕ) → 8 ≤ length xs → ((i : ℕ) → get_or xs i 0 < 256) → (little_bytes 8 (little_number 8 xs) ≡ take 8 xs) × (little_number 8 xs < 2 ^ 64)
eight_bytes [] l h = absurd (omega arith)
eight_bytes (a ∷ []) l h = absurd (omega arith)
eight_bytes (a ∷ b ∷ []) l h = absurd (omega arith)
eight_bytes (a ∷ b ∷ c ∷ []) l h = absurd (omega arith)
eight_bytes (a ∷ b ∷ c ∷ d ∷ []) l h = absurd (omega arith)
eight_bytes (a ∷ b ∷ c ∷ d ∷ e ∷ []) l h = absurd (omega arith)
eight_bytes (a ∷ b ∷ c ∷ d ∷ e ∷ f ∷ []) l h = absurd (omega arith)
eight_bytes (a ∷ b ∷ c ∷ d ∷ e ∷ f ∷ g ∷ []) l h = absurd (omega arith)
eight_bytes (a ∷ b ∷ c ∷ d ∷ e ∷ f ∷ g ∷ k ∷ xs) l h =
    let ha : a < 256 = h 0 in
    let hb : b < 256 = h 1 in
    let hc : c < 256 = h 2 in
    let hd : d < 256 = h 3 in
    let he : e < 256 = h 4 in
    let hf : f < 256 = h 5 in
    let hg : g < 256 = h 6 in
    let hk : k < 256 = h 7 in
    let n : ℕ = a + 256 * (b + 256 * (c + 256 * (d + 256 * (e + 256 * (f + 256 * (g + 256 * (k + 256 * 0))))))) in
    let e0 : n % 256 ≡ a = omega arith in
    let e1 : n / 256 % 256 ≡ b = omega arith in
    let e2 : n / 65536 % 256 ≡ c = omega arith in
    let e3 : n / 16777216 % 256 ≡ d = omega arith in
    let e4 : n / 4294967296 % 256 ≡ e = omega arith in
    let e5 : n / 1099511627776 % 256 ≡ f = omega arith in
    let e6 : n / 281474976710656 % 256 ≡ g = omega arith in
    let e7 : n / 72057594037927936 % 256 ≡ k = omega arith in
    (rw (e0, e1, e2, e3, e4, e5, e6, e7) refl, omega arith)

pub five_bytes : (xs : List ℕ) → 5 ≤ length xs → ((i : ℕ) → get_or xs i 0 < 256) → (big_bytes 5 (big_number 5 xs) ≡ take 5 xs) × (big_number 5 xs < 2 ^ 40)
five_bytes [] l h = absurd (omega arith)
five_bytes (a ∷ []) l h = absurd (omega arith)
five_bytes (a ∷ b ∷ []) l h = absurd (omega arith)
five_bytes (a ∷ b ∷ c ∷ []) l h = absurd (omega arith)
five_bytes (a ∷ b ∷ c ∷ d ∷ []) l h = absurd (omega arith)
five_bytes (a ∷ b ∷ c ∷ d ∷ e ∷ xs) l h =
    let ha : a < 256 = h 0 in
    let hb : b < 256 = h 1 in
    let hc : c < 256 = h 2 in
    let hd : d < 256 = h 3 in
    let he : e < 256 = h 4 in
    let e0 : (a * 4294967296 + (b * 16777216 + (c * 65536 + (d * 256 + (e * 1 + 0))))) / 4294967296 % 256 ≡ a = omega arith in
    let e1 : (a * 4294967296 + (b * 16777216 + (c * 65536 + (d * 256 + (e * 1 + 0))))) / 16777216 % 256 ≡ b = omega arith in
    let e2 : (a * 4294967296 + (b * 16777216 + (c * 65536 + (d * 256 + (e * 1 + 0))))) / 65536 % 256 ≡ c = omega arith in
    let e3 : (a * 4294967296 + (b * 16777216 + (c * 65536 + (d * 256 + (e * 1 + 0))))) / 256 % 256 ≡ d = omega arith in
    let e4 : (a * 4294967296 + (b * 16777216 + (c * 65536 + (d * 256 + (e * 1 + 0))))) % 256 ≡ e = omega arith in
    (rw (e0, e1, e2, e3, e4) refl, omega arith)

-- a 16-bit number, read as signed and widened
pub wide_value : (n : ℕ) → n < 2 ^ 16 → cast_signed w32 (cast_unsigned w32 (cast_signed w16 (cast_unsigned w16 (cast_signed w16 n)))) ≡ cast_signed w16 n
wide_value n h =
    let e : cast_signed w16 (cast_unsigned w16 (cast_signed w16 n)) ≡ cast_signed w16 n = ap (cast_signed w16) (of_z-to_z w16 n h) in
    let fits : Fits w16 n = record { fits = h } in
    ap (λ z. cast_signed w32 (cast_unsigned w32 z)) e ∙ to_z-of_z w32 (cast_signed w16 n) (sfits_widen tt (sfits_to_z fits))
