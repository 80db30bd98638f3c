-- PBCH occupies the first four symbols in slot 1.
use Rattle.std.proofs.Common.{◌≡◌, ℕ, ◌+◌, ◌*◌, ◌/◌, ◌%◌, ◌<◌, ◌≤◌, Bool, true, false, ◌&&◌, nat_eq, nat_le, nat_lt, length, if◌then◌else◌, refl, ap, sym, ◌∙◌, arith, eqb-true}
use Rattle.std.proofs.lemmas.Bool.{lt-ltb, ltb-true}
use Rattle.std.proofs.lemmas.Bool.Decides.{nat_tests}
use Rattle.lte_types.specs.declared.numerology.Prefix.{Prefix}
use Rattle.lte_types.specs.Numerology.{symbols_of_slot, is_extended}
use Rattle.grid_map.specs.declared.Place.{Place}
use Rattle.grid_map.specs.Place.{place, index_in}
use Rattle.grid_map.specs.Broadcast.{pbch_places, pbch_index, is_pbch}
use Rattle.grid_map.specs.LongBroadcast.{long_places}
use Rattle.grid_map.proofs.Points.{length-pbch_places, index_fits, carries_at_index}
use Rattle.grid_map.proofs.LongOrder.{length-long_places, long_place_is}
use Rattle.cell_grid.specs.declared.antenna.Port.{Port}
use Rattle.cell_grid.specs.Ports.{port_prefix, port_symbols, port_slot}
use Rattle.cell_grid.specs.Grid.{is_one_of, broadcast_places, broadcast_symbol, has_broadcast, broadcast_index}
use Rattle.cell_grid.proofs.PlaceValues.{absent_is}
use Rattle.cell_grid.proofs.Prefixes.{port_prefix_known, with_prefix}

-- membership in the PBCH list is `is_pbch`
pub is_pbch_place : (identity : ℕ) (p : Place) → is_one_of (pbch_places identity) p ≡ is_pbch identity p
unfolding pbch_index
is_pbch_place identity p = by (is_pbch identity p) refl (is_one_of (pbch_places identity) p) refl
  where
    by : (b : Bool) → is_pbch identity p ≡ b → (t : Bool) → is_one_of (pbch_places identity) p ≡ t → is_one_of (pbch_places identity) p ≡ is_pbch identity p
    by true e t f = lt-ltb (index_in (pbch_places identity) p) (length (pbch_places identity)) (let l = index_fits identity p e in let n = length-pbch_places identity in omega (arith, l, n)) ∙ sym e
    by false e false f = f ∙ sym e
    by false e true f =
        let inside = ltb-true (index_in (pbch_places identity) p) (length (pbch_places identity)) f in
        let n = length-pbch_places identity in
        f ∙ sym (carries_at_index identity p (omega (arith, inside, n)))

late_pbch : (identity symbol k : ℕ) → 11 ≤ symbol → is_pbch identity (place symbol k) ≡ false
unfolding is_pbch
late_pbch identity symbol k late = let e : nat_lt symbol 11 ≡ false = grind (arith, nat_tests) in rw e (by (nat_le 7 symbol) _ _)
  where
    by : (a b c : Bool) → (((a && false) && b) && c) ≡ false
    by true b c = refl
    by false b c = refl

late_long : (identity symbol k : ℕ) → 4 ≤ symbol → is_one_of (long_places identity) (place symbol k) ≡ false
late_long identity symbol k late =
    absent_is (long_places identity) (place symbol k)
    (λ j inside same. let few = length-long_places identity in let low = (long_place_is identity j (omega (arith, inside, few))).symbol in let here = ap (λ (p : Place). p.symbol) same in omega (arith, low, here, late))

-- no PBCH resource element lies in slot 1 from its fifth symbol
abbrev IsLate : ℕ → ℕ → ℕ → ℕ → Prefix → Type 0
IsLate identity subframe symbol k prefix =
    2 * subframe + symbol / symbols_of_slot prefix ≡ 1 → 4 ≤ symbol % symbols_of_slot prefix →
    is_one_of (if is_extended prefix then long_places identity else pbch_places identity) (place (if is_extended prefix then symbol % symbols_of_slot prefix else symbol) k) ≡ false

late_places : (identity subframe symbol k : ℕ) (port : Port) → IsLate identity subframe symbol k (port_prefix port)
late_places identity subframe symbol k port =
    with_prefix (IsLate identity subframe symbol k)
    (λ slot late. is_pbch_place identity (place symbol k) ∙ late_pbch identity symbol k (omega (arith, slot, late)))
    (λ slot late. late_long identity (symbol % 6) k late)
    (port_prefix port) (port_prefix_known port)

-- there is no PBCH outside the first four symbols in slot 1
pub not_broadcast : (port : Port) (identity subframe symbol k : ℕ) → (port_slot port subframe symbol ≡ 1 → 4 ≤ symbol % port_symbols port) → has_broadcast port identity subframe symbol k ≡ false
not_broadcast port identity subframe symbol k late = by (nat_eq (port_slot port subframe symbol) 1) refl
  where
    by : (b : Bool) → nat_eq (port_slot port subframe symbol) 1 ≡ b → (b && is_one_of (broadcast_places port identity) (place (broadcast_symbol port symbol) k)) ≡ false
    by false e = refl
    by true e = let slot = eqb-true (port_slot port subframe symbol) 1 e in late_places identity subframe symbol k port slot (late slot)

-- ---- resource elements with the normal prefix

module _ (port : Port) (seven : port_symbols port ≡ 7) (identity symbol k : ℕ) where
  abbrev IsThere : Prefix → Type 0
  IsThere prefix =
      symbols_of_slot prefix ≡ 7 →
      (nat_eq (2 * 0 + symbol / symbols_of_slot prefix) 1
      && is_one_of (if is_extended prefix then long_places identity else pbch_places identity) (place (if is_extended prefix then symbol % symbols_of_slot prefix else symbol) k)) ≡ true

  both_true : (a b : Bool) → a ≡ true → b ≡ true → (a && b) ≡ true
  both_true a b e f = rw (e, f) refl

  pub broadcast_there : 7 ≤ symbol → symbol < 14 → is_pbch identity (place symbol k) ≡ true → has_broadcast port identity 0 symbol k ≡ true
  broadcast_there low high e =
      with_prefix IsThere
      (λ is. both_true _ _ (let slot : 2 * 0 + symbol / 7 ≡ 1 = omega (arith, low, high) in rw slot refl) (is_pbch_place identity (place symbol k) ∙ e))
      (λ is. absurd (omega (arith, is)))
      (port_prefix port) (port_prefix_known port) seven

  abbrev IsNumbered : Prefix → Type 0
  IsNumbered prefix =
      symbols_of_slot prefix ≡ 7 →
      index_in (if is_extended prefix then long_places identity else pbch_places identity) (place (if is_extended prefix then symbol % symbols_of_slot prefix else symbol) k)
      ≡ pbch_index identity (place symbol k)

  pub broadcast_number : broadcast_index port identity symbol k ≡ pbch_index identity (place symbol k)
  unfolding pbch_index
  broadcast_number = with_prefix IsNumbered (λ is. refl) (λ is. absurd (omega (arith, is))) (port_prefix port) (port_prefix_known port) seven
