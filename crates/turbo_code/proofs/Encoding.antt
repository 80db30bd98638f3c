-- The invariant of the loop over a word, and the lists that the loops fill.
use Rattle.std.proofs.Common.{◌≡◌, ℕ, suc, ◌+◌, ◌-◌, ◌<◌, ◌≤◌, Bool, false, List, [], ◌∷◌, ◌++◌, length, get_or, set, replicate, take, drop, refl, ap, ap₂, sym, subst, ◌∙◌, arith}
use Rattle.std.proofs.lemmas.List.{length-set, drop-replicate}
use Rattle.std.proofs.lemmas.Slice.{drop-append-drop}
use Rattle.std.proofs.Math.Seq.{take-append_seam}
use Rattle.finite.specs.Lists.{values_below}
use Rattle.finite.proofs.Lists.{front_is, set_more}
use Rattle.turbo_code.specs.declared.rows.Row.{Row}
use Rattle.turbo_code.specs.declared.encoder.Register.{Register}
use Rattle.turbo_code.specs.Table.{interleaver}
use Rattle.turbo_code.specs.Streams.{in_order}
use Rattle.finite.specs.Bits.{xor}
use Rattle.finite.proofs.Bits.{false-xor}
use Rattle.turbo_code.specs.Encoder.{back, before, next, bit_at, parity, parities, tail_x, tail_z, interleaved, stream, coded}

-- the register holds the last three bits
pub record Shows (register : Register) (past : List Bool) : Type 0 where
  pub one : register.one ≡ back past 1
  pub two : register.two ≡ back past 2
  pub three : register.three ≡ back past 3

-- the loop after k bits
pub record AreParities (word : List Bool) (k : ℕ) (found : List Bool) (register : Register) : Type 0 where
  pub size : length found ≡ 1024
  pub at : (j : ℕ) → j < k → get_or found j false ≡ parity word j
  pub shows : Shows register (before word k)

pub parities_none : (word found : List Bool) (register : Register) → length found ≡ 1024 → Shows register [] → AreParities word 0 found register
unfolding before
parities_none word found register size shows = record {
  size = size;
  at = λ j below. absurd (omega (arith, below));
  shows = shows;
}

pub parities_more : (word : List Bool) (k : ℕ) (found : List Bool) (old new : Register) (z : Bool) → k < 1024 →
    new.one ≡ xor (xor (bit_at word k) old.two) old.three → new.two ≡ old.one → new.three ≡ old.two → z ≡ xor (xor new.one old.one) old.three →
    AreParities word k found old → AreParities word (k + 1) (set found k z) new
unfolding before
parities_more word k found old new z inside last second third is known =
    let e : k + 1 ≡ suc k = omega arith in
    let s = known.shows in
    let size = known.size in
    let one : new.one ≡ next (before word k) (bit_at word k) = last ∙ rw (s.two, s.three) refl in
    record {
      size = length-set found k z ∙ size;
      at = set_more false k (parity word) found z (omega (arith, size, inside)) (is ∙ rw (one, s.one, s.three) refl) known.at;
      shows = subst (λ n. Shows new (before word n)) (sym e) (record { one = one; two = second ∙ s.one; three = third ∙ s.two });
    }

pub parities_all : (word : List Bool) (k : ℕ) (found : List Bool) (register : Register) → k ≡ length word → length word ≤ 1024 →
    AreParities word k found register → take (length word) found ≡ parities word
unfolding parities
parities_all word k found register e short known =
    let size = known.size in
    front_is false (length word) (parity word) found (omega (arith, size, short)) (λ j below. known.at j (omega (arith, e, below)))

pub three_x : (r : Register) → (xor r.two r.three ∷ xor r.one r.two ∷ r.one ∷ []) ≡ xor r.two r.three ∷ xor r.one r.two ∷ xor false r.one ∷ []
three_x r = rw (false-xor r.one) refl

pub three_z : (r : Register) → (xor r.one r.three ∷ r.two ∷ r.one ∷ []) ≡ xor r.one r.three ∷ xor false r.two ∷ xor false r.one ∷ []
three_z r = rw (false-xor r.one, false-xor r.two) refl

pub tails_x : (word : List Bool) (k : ℕ) (r : Register) → k ≡ length word → Shows r (before word k) →
    (xor r.two r.three ∷ xor r.one r.two ∷ xor false r.one ∷ []) ≡ tail_x word 0 ∷ tail_x word 1 ∷ tail_x word 2 ∷ []
unfolding tail_x
tails_x word k r e s = rw (← e) (rw (s.one, s.two, s.three) refl)

pub tails_z : (word : List Bool) (k : ℕ) (r : Register) → k ≡ length word → Shows r (before word k) →
    (xor r.one r.three ∷ xor false r.two ∷ xor false r.one ∷ []) ≡ tail_z word 0 ∷ tail_z word 1 ∷ tail_z word 2 ∷ []
unfolding tail_z
tails_z word k r e s = rw (← e) (rw (s.one, s.two, s.three) refl)

pub interleaved_is : (row : Row) (word : List Bool) (i : ℕ) (found : List Bool) → length word ≡ row.k → row.k ≤ 1024 → length word ≤ i → length found ≡ 1024 →
    ((j : ℕ) → j < i → get_or found j false ≡ bit_at word (interleaver row j)) → take (length word) found ≡ interleaved row word
unfolding in_order
interleaved_is row word i found count short past size at =
    let long : length word ≤ length found = omega (arith, count, short, size) in
    front_is false (length word) (λ j. bit_at word (interleaver row j)) found long (λ j below. at j (omega (arith, past, below)))
    ∙ ap (λ n. values_below n (λ j. bit_at word (interleaver row j))) count

-- ---- a stream

-- zeros whose beginning is overwritten by the bits and then the tail
pub stream_is : (bits tail : List Bool) → length bits ≤ 1024 → length tail ≡ 4 →
    (first : List Bool) → first ≡ take 0 (replicate 1028 false) ++ bits ++ drop (0 + length bits) (replicate 1028 false) →
    take (length bits) first ++ tail ++ drop (length bits + length tail) first ≡ stream bits tail
stream_is bits tail short four first is =
    let k = length bits in
    let zeros = replicate 1028 false in
    let e : 0 + length bits ≡ length bits = omega arith in
    let left : 1028 - (length bits + length tail) ≡ 1024 - length bits = omega (arith, four) in
    let same : first ≡ bits ++ drop k zeros = is ∙ ap (λ n. bits ++ drop n zeros) e in
    let rest = drop-append-drop k zeros bits (k + length tail) (omega arith) refl ∙ drop-replicate (k + length tail) 1028 false ∙ ap (λ n. replicate n false) left in
    ap (λ xs. take k xs ++ tail ++ drop (k + length tail) xs) same ∙ ap₂ (λ xs ys. xs ++ tail ++ ys) (take-append_seam bits (drop k zeros)) rest

-- ---- the codeword

pub coded_is : (row : Row) (u v : List Bool) (s0 s1 s2 ax az bx bz pa pb : List Bool) →
    v ≡ interleaved row u → pa ≡ parities u → pb ≡ parities v →
    ax ≡ tail_x u 0 ∷ tail_x u 1 ∷ tail_x u 2 ∷ [] → az ≡ tail_z u 0 ∷ tail_z u 1 ∷ tail_z u 2 ∷ [] →
    bx ≡ tail_x v 0 ∷ tail_x v 1 ∷ tail_x v 2 ∷ [] → bz ≡ tail_z v 0 ∷ tail_z v 1 ∷ tail_z v 2 ∷ [] →
    s0 ≡ stream u (get_or ax 0 false ∷ get_or az 1 false ∷ get_or bx 0 false ∷ get_or bz 1 false ∷ []) →
    s1 ≡ stream pa (get_or az 0 false ∷ get_or ax 2 false ∷ get_or bz 0 false ∷ get_or bx 2 false ∷ []) →
    s2 ≡ stream pb (get_or ax 1 false ∷ get_or az 2 false ∷ get_or bx 1 false ∷ get_or bz 2 false ∷ []) →
    (s0 ∷ s1 ∷ s2 ∷ []) ≡ coded row u
unfolding coded
coded_is row u v s0 s1 s2 ax az bx bz pa pb ev ep eq eax eaz ebx ebz e0 e1 e2 =
    rw (e0, e1, e2) (rw (ep, eq, eax, eaz, ebx, ebz) (rw ev refl))
