-- Positions of a frame's samples in its symbols.
use Rattle.std.proofs.Common.{◌≡◌, ◌⊎◌, ℕ, ◌+◌, ◌-◌, ◌*◌, ◌/◌, ◌%◌, ◌<◌, ◌≤◌, inl, inr, Bool, true, false, nat_eq, nat_lt, List, arith, refl, sym, subst, ap, ◌∙◌, ltb-true, ltb-false, eqb-true, mod-lt}
use Rattle.std.specs.Prelude.{if◌then◌else◌}
use Rattle.std.proofs.lemmas.Bool.{cases_lt}
use Rattle.std.proofs.lemmas.Bool.Decides.{nat_tests}
use Rattle.finite.specs.Lists.{values_below}
use Rattle.finite.proofs.Lists.{values_below_at, values_below_same}
use Rattle.cs_num.specs.declared.Cpx.{Cpx}
use Rattle.cs_num.specs.Complex.{nothing, value_at}
use Rattle.fold128.specs.Symbol.{useful_at, useful_part}
use Rattle.fold128.proofs.Samples.{useful_same}
use Rattle.lte_types.specs.declared.numerology.Prefix.{Prefix}
use Rattle.lte_types.specs.Numerology.{normal, extended, IsPrefix, prefix_length, symbols_of_slot, useful_start, symbol_of}
use Rattle.lte_types.specs.Timing.{number_of, start_of, number_at_start}
use Rattle.cell_grid.specs.declared.antenna.Port.{Port}
use Rattle.lte_types.specs.declared.carrier.Carrier.{Carrier}
use Rattle.lte_types.specs.declared.carrier.Carrier.TheVariants.{OnePort, TwoPorts, LongPrefix, FourPorts}
use Rattle.lte_types.specs.Carrier.{prefix_of}
use Rattle.cell_grid.specs.Ports.{port_prefix}
use Rattle.cell_grid.proofs.Prefixes.{prefix_known, port_prefix_known, with_prefix}
use Rattle.cell_grid.specs.Grid.{Elements}
use Rattle.cell_tx.specs.Sent.{symbol_sample, prefix_slot_sample, prefix_frame_sample, prefix_sent}
use Rattle.cell_tx.specs.Starts.{useful_place, first_in_slot, first_sample}

-- a list that holds a grid gives the grid's useful part
pub useful_from : (grid : ℕ → Cpx) → useful_part (value_at (values_below 72 grid)) ≡ useful_part grid
unfolding useful_part
useful_from grid = values_below_same 128 (useful_at (value_at (values_below 72 grid))) (useful_at grid)
    (λ n l. useful_same (value_at (values_below 72 grid)) grid n (λ k j. values_below_at grid 72 k nothing j))

pub useful_part_at : (grid : ℕ → Cpx) (n : ℕ) → n < 128 → value_at (useful_part grid) n ≡ useful_at grid n
unfolding useful_part
useful_part_at grid n l = values_below_at (useful_at grid) 128 n nothing l

-- ---- a sample in a slot

-- the sample's position in its symbol
pub record IsPlaced (prefix : Prefix) (i : ℕ) : Type 0 where
  pub symbol : symbol_of prefix i < symbols_of_slot prefix
  pub low : useful_start prefix 0 0 (symbol_of prefix i) ≤ i + 128
  pub high : i < useful_start prefix 0 0 (symbol_of prefix i) + 128
  pub place : useful_place prefix i ≡ (i + 128 - useful_start prefix 0 0 (symbol_of prefix i)) % 128

pub placed : (prefix : Prefix) (i : ℕ) → IsPrefix prefix → i < 960 → IsPlaced prefix i
placed prefix i known inside =
    with_prefix (λ p. IsPlaced p i)
    (record { symbol = omega (arith, inside); low = omega (arith, inside); high = omega (arith, inside); place = omega (arith, inside) })
    (record { symbol = omega (arith, inside); low = omega (arith, inside); high = omega (arith, inside); place = omega (arith, inside) })
    prefix known

at_place : (useful : ℕ → Cpx) (start i n : ℕ) (before : Bool) → nat_lt i start ≡ before → start ≤ i + 128 → i < start + 128 → n ≡ (i + 128 - start) % 128 →
    symbol_sample useful start i ≡ useful n
at_place useful start i n true e low high is = let g : i + 128 - start ≡ n = omega (arith, ltb-true _ _ e, low, is) in rw (e, g) refl
at_place useful start i n false e low high is = let g : i - start ≡ n = omega (arith, ltb-false _ _ e, high, is) in rw (e, g) refl

module _ (prefix : Prefix) (grid : Elements) (sfn : ℕ) where
  pub slot_sample_is : (slot i : ℕ) → IsPrefix prefix → i < 960 →
      prefix_slot_sample prefix grid sfn slot i ≡ useful_at (grid sfn (slot / 2) (symbols_of_slot prefix * (slot % 2) + symbol_of prefix i)) (useful_place prefix i)
  slot_sample_is slot i known inside =
      let at = placed prefix i known inside in
      let start : ℕ = useful_start prefix 0 0 (symbol_of prefix i) in
      at_place (useful_at (grid sfn (slot / 2) (symbols_of_slot prefix * (slot % 2) + symbol_of prefix i))) start i (useful_place prefix i)
      (nat_lt i start) refl at.low at.high at.place

  -- the sample, read from its symbol's useful part
  pub slot_value : (slot i n : ℕ) (useful : List Cpx) → IsPrefix prefix → i < 960
      → useful ≡ useful_part (grid sfn (slot / 2) (symbols_of_slot prefix * (slot % 2) + symbol_of prefix i)) → n ≡ useful_place prefix i
      → value_at useful n ≡ prefix_slot_sample prefix grid sfn slot i
  slot_value slot i n useful known inside is place =
      let row : ℕ → Cpx = grid sfn (slot / 2) (symbols_of_slot prefix * (slot % 2) + symbol_of prefix i) in
      rw place
      (ap (λ list. value_at list (useful_place prefix i)) is ∙ useful_part_at row (useful_place prefix i) (mod-lt _ (omega arith))
      ∙ sym (slot_sample_is slot i known inside))

  pub frame_sample_is : (i : ℕ) → prefix_frame_sample prefix grid sfn i ≡ prefix_slot_sample prefix grid sfn (i / 960) (i % 960)
  unfolding prefix_frame_sample
  frame_sample_is i = refl

-- ---- symbols in a frame, by number

normal_next : (n : ℕ) → first_sample normal (n + 1) ≡ 960 * (n / 7) + 138 + 137 * (n % 7)
normal_next n = settle (nat_lt (n % 7) 6) refl
  where
    settle : (b : Bool) → nat_lt (n % 7) 6 ≡ b → first_sample normal (n + 1) ≡ 960 * (n / 7) + 138 + 137 * (n % 7)
    settle true e =
        let l = ltb-true _ _ e in
        let slot : (n + 1) / 7 ≡ n / 7 = omega (arith, l) in
        let place : (n + 1) % 7 ≡ n % 7 + 1 = omega (arith, l) in
        let later : nat_eq (n % 7 + 1) 0 ≡ false = grind (arith, nat_tests) in
        rw (slot, place, later) (omega arith)
    settle false e =
        let l = ltb-false _ _ e in
        let slot : (n + 1) / 7 ≡ n / 7 + 1 = omega (arith, l) in
        let place : (n + 1) % 7 ≡ 0 = omega (arith, l) in
        rw (slot, place) (omega (arith, l))

from_first : (l : ℕ) → 137 * l ≤ first_in_slot normal l
from_first l = grind (arith, nat_tests)

from_later : (l : ℕ) → 0 < l → 1 + 137 * l ≤ first_in_slot normal l
from_later l h = let e : nat_eq l 0 ≡ false = grind (arith, nat_tests) in rw e (omega arith)

up_to : (l : ℕ) → first_in_slot normal l ≤ 1 + 137 * l
up_to l = grind (arith, nat_tests)

pub extended_first : (n : ℕ) → first_sample extended n ≡ 160 * n
extended_first n = settle (nat_eq (n % 6) 0) refl
  where
    settle : (b : Bool) → nat_eq (n % 6) 0 ≡ b → first_sample extended n ≡ 160 * n
    settle true e = let z : n % 6 ≡ 0 = eqb-true _ _ e in rw z (omega (arith, z))
    settle false e = rw e (omega arith)

-- the slot and the symbol that contain a sample
pub record StandsIn (prefix : Prefix) (n i : ℕ) : Type 0 where
  pub slot : i / 960 ≡ n / symbols_of_slot prefix
  pub symbol : symbol_of prefix (i % 960) ≡ n % symbols_of_slot prefix

normal_symbol_of : (n i : ℕ) → first_sample normal n ≤ i → i < 960 * (n / 7) + 138 + 137 * (n % 7) → symbol_of normal (i % 960) ≡ n % 7
normal_symbol_of n i low high = settle (nat_lt 0 (n % 7)) refl
  where
    settle : (b : Bool) → nat_lt 0 (n % 7) ≡ b → symbol_of normal (i % 960) ≡ n % 7
    settle true e = omega (arith, low, high, from_later (n % 7) (ltb-true _ _ e))
    settle false e = omega (arith, low, high, from_first (n % 7), ltb-false _ _ e)

pub stands_in : (prefix : Prefix) (n i : ℕ) → IsPrefix prefix → first_sample prefix n ≤ i → i < first_sample prefix (n + 1) → StandsIn prefix n i
stands_in prefix n i known =
    with_prefix (λ p. first_sample p n ≤ i → i < first_sample p (n + 1) → StandsIn p n i)
    (λ low below.
    let high = rw (normal_next n) at below in
    record { slot = omega (arith, low, high, from_first (n % 7)); symbol = normal_symbol_of n i low high })
    (λ low below.
    let from = rw (extended_first n) at low in
    let high = rw (extended_first (n + 1)) at below in
    record { slot = omega (arith, from, high); symbol = omega (arith, from, high) })
    prefix known

-- the sample's index in the useful part, counted from the symbol's end
pub place_from_end : (prefix : Prefix) (n i : ℕ) → IsPrefix prefix → first_sample prefix n ≤ i → i < first_sample prefix (n + 1)
    → useful_place prefix (i % 960) ≡ (i + 256 - first_sample prefix (n + 1)) % 128
place_from_end prefix n i known =
    with_prefix (λ p. first_sample p n ≤ i → i < first_sample p (n + 1) → useful_place p (i % 960) ≡ (i + 256 - first_sample p (n + 1)) % 128)
    (λ low below.
    let at = stands_in normal n i (inl refl) low below in
    let high = rw (normal_next n) at below in
    let e = at.symbol in
    let s = at.slot in
    rw (e, normal_next n) (omega (arith, s, high, low, from_first (n % 7))))
    (λ low below.
    let at = stands_in extended n i (inr refl) low below in
    let from = rw (extended_first n) at low in
    let high = rw (extended_first (n + 1)) at below in
    let e = at.symbol in
    let s = at.slot in
    rw (e, extended_first (n + 1)) (omega (arith, s, from, high)))
    prefix known

-- the sample, read from the useful part
pub value_there : (prefix : Prefix) (grid : Elements) (sfn n i last : ℕ) (useful : List Cpx) → IsPrefix prefix
    → useful ≡ useful_part (grid sfn (n / symbols_of_slot prefix / 2) (symbols_of_slot prefix * (n / symbols_of_slot prefix % 2) + n % symbols_of_slot prefix))
    → last ≡ first_sample prefix (n + 1) → first_sample prefix n ≤ i → i < last → value_at useful ((i + 256 - last) % 128) ≡ prefix_frame_sample prefix grid sfn i
value_there prefix grid sfn n i last useful known is e low below =
    let high : i < first_sample prefix (n + 1) = subst (λ (m : ℕ). i < m) e below in
    let at = stands_in prefix n i known low high in
    let place : (i + 256 - last) % 128 ≡ useful_place prefix (i % 960) = ap (λ (m : ℕ). (i + 256 - m) % 128) e ∙ sym (place_from_end prefix n i known low high) in
    slot_value prefix grid sfn (i / 960) (i % 960) ((i + 256 - last) % 128) useful known (mod-lt i (omega arith)) (rw (at.slot, at.symbol) is) place
    ∙ sym (frame_sample_is prefix grid sfn i)

normal_mono : (m n : ℕ) → m ≤ n → first_sample normal m ≤ first_sample normal n
normal_mono m n h = settle (cases_lt m n)
  where
    settle : (m < n) ⊎ (n ≤ m) → first_sample normal m ≤ first_sample normal n
    settle (inl less) = omega (arith, less, up_to (m % 7), from_later (n % 7), from_first (n % 7))
    settle (inr same) = let e : m ≡ n = omega (arith, same, h) in rw e (omega arith)

pub first-mono : (prefix : Prefix) (m n : ℕ) → IsPrefix prefix → m ≤ n → first_sample prefix m ≤ first_sample prefix n
first-mono prefix m n known h =
    with_prefix (λ p. first_sample p m ≤ first_sample p n) (normal_mono m n h) (rw (extended_first m, extended_first n) (omega (arith, h))) prefix known

-- ---- frames in a sequence

module _ (prefix : Prefix) (grid : Elements) where
  pub prefix_sent_is : (sfn i : ℕ) → prefix_sent prefix grid sfn i ≡ prefix_frame_sample prefix grid (number_of sfn i) (i % 19200)
  unfolding prefix_sent
  prefix_sent_is sfn i = refl

  in_frame : (sfn i n m : ℕ) → number_of sfn i ≡ n → i % 19200 ≡ m → prefix_sent prefix grid sfn i ≡ prefix_frame_sample prefix grid n m
  in_frame sfn i n m e f = prefix_sent_is sfn i ∙ rw (e, f) refl

  pub frames_follow : (sfn j i : ℕ) → i < 19200 → prefix_sent prefix grid sfn (19200 * j + i) ≡ prefix_frame_sample prefix grid ((sfn + j) % 1024) i
  frames_follow sfn j i inside =
      let whole : (19200 * j + i) / 19200 ≡ j = omega (arith, inside) in
      in_frame sfn (19200 * j + i) ((sfn + j) % 1024) i (ap (λ (n : ℕ). (sfn + n) % 1024) whole) (omega (arith, inside))

-- a frame's number, counted from the start sample
number_from_start : (sfn offset j : ℕ) (none : Bool) → nat_eq offset 0 ≡ none → sfn ≤ 1023 → offset < 19200 →
    (sfn + (if none then j else j + 1)) % 1024 ≡ (number_at_start sfn offset + j) % 1024
number_from_start sfn offset j true e small inside = rw e refl
number_from_start sfn offset j false e small inside = rw e (omega (arith, small))

start_in_frames : (offset j i : ℕ) (none : Bool) → nat_eq offset 0 ≡ none → offset < 19200 → i < 19200 →
    start_of offset + 19200 * j + i + offset ≡ 19200 * (if none then j else j + 1) + i
start_in_frames offset j i true e inside few = let z : offset ≡ 0 = grind (arith, nat_tests) in rw z (omega arith)
start_in_frames offset j i false e inside few = let z : 0 < offset = grind (arith, nat_tests) in omega (arith, z, inside)

pub frames_begin : (prefix : Prefix) (grid : Elements) (sfn offset j i : ℕ) → sfn ≤ 1023 → offset < 19200 → i < 19200 →
    prefix_sent prefix grid sfn (start_of offset + 19200 * j + i + offset) ≡ prefix_frame_sample prefix grid ((number_at_start sfn offset + j) % 1024) i
frames_begin prefix grid sfn offset j i small inside few =
    let frames : ℕ = if nat_eq offset 0 then j else j + 1 in
    let place = start_in_frames offset j i (nat_eq offset 0) refl inside few in
    let number = number_from_start sfn offset j (nat_eq offset 0) refl small inside in
    ap (prefix_sent prefix grid sfn) place ∙ frames_follow prefix grid sfn frames i few ∙ ap (λ (n : ℕ). prefix_frame_sample prefix grid n i) number

-- ---- useful parts and cyclic prefixes

-- a sample's position in its slot
pub record IsInSymbol (prefix : Prefix) (l i : ℕ) : Type 0 where
  pub inside : i < 960
  pub symbol : symbol_of prefix i ≡ l

module _ (prefix : Prefix) (grid : Elements) (sfn slot l : ℕ) where
  in_slot : (i : ℕ) → IsInSymbol prefix l i → prefix_frame_sample prefix grid sfn (960 * slot + i)
      ≡ symbol_sample (useful_at (grid sfn (slot / 2) (symbols_of_slot prefix * (slot % 2) + l))) (useful_start prefix 0 0 l) i
  unfolding prefix_frame_sample
  in_slot i at =
      let inside = at.inside in
      let first : (960 * slot + i) / 960 ≡ slot = omega (arith, inside) in
      let rest : (960 * slot + i) % 960 ≡ i = omega (arith, inside) in
      rw (first, rest, at.symbol) refl

later_sample : (useful : ℕ → Cpx) (start n : ℕ) → symbol_sample useful start (start + n) ≡ useful n
later_sample useful start n =
    let test : nat_lt (start + n) start ≡ false = grind (arith, nat_tests) in
    let place : start + n - start ≡ n = omega arith in
    rw (test, place) refl

earlier_sample : (useful : ℕ → Cpx) (start d : ℕ) → 1 ≤ d → d ≤ start → d ≤ 128 → symbol_sample useful start (start - d) ≡ useful (128 - d)
earlier_sample useful start d some fits few =
    let test : nat_lt (start - d) start ≡ true = grind (arith, nat_tests) in
    let place : start - d + 128 - start ≡ 128 - d = omega (arith, some, fits, few) in
    rw (test, place) refl

pub in_useful : (prefix : Prefix) (l n : ℕ) → IsPrefix prefix → l < symbols_of_slot prefix → n < 128 → IsInSymbol prefix l (useful_start prefix 0 0 l + n)
in_useful prefix l n (inl e) few inside = subst (λ p. l < symbols_of_slot p → IsInSymbol p l (useful_start p 0 0 l + n)) (sym e) (λ fits. record { inside = omega (arith, fits, inside); symbol = omega (arith, fits, inside) }) few
in_useful prefix l n (inr e) few inside = subst (λ p. l < symbols_of_slot p → IsInSymbol p l (useful_start p 0 0 l + n)) (sym e) (λ fits. record { inside = omega (arith, fits, inside); symbol = omega (arith, fits, inside) }) few

pub useful_parts_stand : (prefix : Prefix) (grid : Elements) (sfn slot l n : ℕ) → IsPrefix prefix → l < symbols_of_slot prefix → n < 128 →
    prefix_frame_sample prefix grid sfn (useful_start prefix 0 slot l + n) ≡ useful_at (grid sfn (slot / 2) (symbols_of_slot prefix * (slot % 2) + l)) n
useful_parts_stand prefix grid sfn slot l n known few inside =
    let e : useful_start prefix 0 slot l + n ≡ 960 * slot + (useful_start prefix 0 0 l + n) = omega arith in
    ap (prefix_frame_sample prefix grid sfn) e ∙ in_slot prefix grid sfn slot l (useful_start prefix 0 0 l + n) (in_useful prefix l n known few inside)
    ∙ later_sample (useful_at (grid sfn (slot / 2) (symbols_of_slot prefix * (slot % 2) + l))) (useful_start prefix 0 0 l) n

-- the samples in a cyclic prefix
record IsInPrefix (prefix : Prefix) (l d : ℕ) : Type 0 where
  fits : d ≤ useful_start prefix 0 0 l
  few : d ≤ 128
  place : IsInSymbol prefix l (useful_start prefix 0 0 l - d)

prefix_fits : (l d : ℕ) → d ≤ prefix_length normal l → (d ≤ 10) × (0 < l → d ≤ 9)
prefix_fits l d h = grind (arith, nat_tests)

normal_symbol : (l d : ℕ) → 1 ≤ d → d ≤ 10 → (0 < l → d ≤ 9) → symbol_of normal (10 + 137 * l - d) ≡ l
normal_symbol l d some ten nine = settle (nat_lt 0 l) refl
  where
    settle : (b : Bool) → nat_lt 0 l ≡ b → symbol_of normal (10 + 137 * l - d) ≡ l
    settle true e = omega (arith, some, nine (ltb-true _ _ e))
    settle false e = omega (arith, some, ten, ltb-false _ _ e)

normal_prefix : (l d : ℕ) → l < 7 → 1 ≤ d → d ≤ prefix_length normal l → IsInPrefix normal l d
normal_prefix l d few some h =
    let both = prefix_fits l d h in
    let start : useful_start normal 0 0 l ≡ 10 + 137 * l = omega arith in
    record {
      fits = omega (arith, both.0);
      few = omega (arith, both.0);
      place = record { inside = omega (arith, few, start); symbol = rw start (normal_symbol l d some both.0 both.1) };
    }

extended_fits : (l d : ℕ) → d ≤ prefix_length extended l → d ≤ 32
extended_fits l d h = grind (arith, nat_tests)

extended_prefix : (l d : ℕ) → l < 6 → 1 ≤ d → d ≤ prefix_length extended l → IsInPrefix extended l d
extended_prefix l d few some h =
    let most = extended_fits l d h in
    record { fits = omega (arith, most); few = omega (arith, most); place = record { inside = omega (arith, few); symbol = omega (arith, some, most) } }

in_prefix : (prefix : Prefix) (l d : ℕ) → IsPrefix prefix → l < symbols_of_slot prefix → 1 ≤ d → d ≤ prefix_length prefix l → IsInPrefix prefix l d
in_prefix prefix l d (inl e) few some h =
    subst (λ p. l < symbols_of_slot p → d ≤ prefix_length p l → IsInPrefix p l d) (sym e) (λ inside fits. normal_prefix l d inside some fits) few h
in_prefix prefix l d (inr e) few some h =
    subst (λ p. l < symbols_of_slot p → d ≤ prefix_length p l → IsInPrefix p l d) (sym e) (λ inside fits. extended_prefix l d inside some fits) few h

pub prefixes_repeat : (prefix : Prefix) (grid : Elements) (sfn slot l d : ℕ) → IsPrefix prefix → l < symbols_of_slot prefix → 1 ≤ d → d ≤ prefix_length prefix l →
    prefix_frame_sample prefix grid sfn (useful_start prefix 0 slot l - d) ≡ useful_at (grid sfn (slot / 2) (symbols_of_slot prefix * (slot % 2) + l)) (128 - d)
prefixes_repeat prefix grid sfn slot l d known few some fits =
    let at = in_prefix prefix l d known few some fits in
    let inside = at.fits in
    let e : useful_start prefix 0 slot l - d ≡ 960 * slot + (useful_start prefix 0 0 l - d) = omega (arith, inside) in
    ap (prefix_frame_sample prefix grid sfn) e ∙ in_slot prefix grid sfn slot l (useful_start prefix 0 0 l - d) at.place
    ∙ earlier_sample (useful_at (grid sfn (slot / 2) (symbols_of_slot prefix * (slot % 2) + l))) (useful_start prefix 0 0 l) d some inside at.few
