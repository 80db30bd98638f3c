-- No channel occupies a synchronisation signal symbol.
use Rattle.std.proofs.Common.{◌≡◌, ℕ, zero, suc, ◌+◌, ◌-◌, ◌*◌, ◌/◌, ◌%◌, ◌<◌, ◌≤◌, ◌⊎◌, inl, inr, Bool, true, false, ◌&&◌, ◌||◌, not, nat_eq, nat_le, nat_lt, List, [], ◌∷◌, ◌++◌, map, length, get_or, refl, ap, sym, subst, ◌∙◌, arith}
use Rattle.std.specs.Prelude.{All, if◌then◌else◌}
use Rattle.std.specs.List.{list_any, flat_map, range_with_len}
use Rattle.std.proofs.Math.Bool.{and-false}
use Rattle.std.proofs.lemmas.Bool.{and_parts, ltb-true, cases_lt}
use Rattle.std.proofs.lemmas.Bool.Decides.{nat_tests}
use Rattle.finite.proofs.Lists.{values_below-All}
use Rattle.cs_num.specs.declared.Cpx.{Cpx}
use Rattle.cs_num.specs.Complex.{nothing}
use Rattle.grid_map.specs.declared.Place.{Place}
use Rattle.grid_map.specs.declared.Reg.{Reg}
use Rattle.grid_map.specs.Place.{place, same_place, places_of}
use Rattle.grid_map.specs.Group.{group, is_group, spanned, span, is_kept, group_places}
use Rattle.grid_map.specs.Control.{pcfich_places, pcfich_groups, pdcch_groups, is_in_region}
use Rattle.grid_map.specs.Candidate.{candidate_places, candidate_groups, quadruplet_group, group_of_quadruplet}
use Rattle.lte_types.specs.declared.carrier.Carrier.{Carrier}
use Rattle.grid_map.specs.Shared.{is_shared_of, shared_places_of, is_synchronisation, subframe_symbols}
use Rattle.grid_map.proofs.Order.{same_place-refl, same_place-true}
use Rattle.grid_map.proofs.Kept.{any-filter}
use Rattle.grid_map.proofs.Regions.{pcfich_inside, pdcch_inside}
use Rattle.cell_grid.specs.declared.antenna.Port.{Port}
use Rattle.lte_types.specs.declared.numerology.Prefix.{Prefix}
use Rattle.lte_types.specs.Numerology.{normal, extended, symbols_of_slot}
use Rattle.cell_plan.specs.declared.cell.CellPlan.{CellPlan}
use Rattle.cell_grid.specs.Control.{control_places}
use Rattle.cell_grid.specs.Ports.{port_prefix, port_symbols, has_control}
use Rattle.cell_grid.specs.Shared.{assigned_places}
use Rattle.cell_grid.specs.Grid.{is_one_of, is_indicator, has_system_information, control_value, shared_value, system_value, port_channel_value}
use Rattle.cell_grid.proofs.Broadcast.{not_broadcast}
use Rattle.cell_grid.proofs.PlaceValues.{absent_is}
use Rattle.cell_grid.proofs.Prefixes.{port_prefix_known, with_prefix}
use Rattle.cell_grid.proofs.SystemPlaces.{symbols_are}

-- ---- lists without a resource element

none_at : (test : Place → Bool) (ps : List Place) (j : ℕ) (d : Place) → list_any test ps ≡ false → j < length ps → test (get_or ps j d) ≡ false
none_at test [] j d e inside = absurd (omega (arith, inside))
none_at test (p ∷ ps) zero d e inside = first (test p) (list_any test ps) e
  where
    first : (a b : Bool) → (a || b) ≡ false → a ≡ false
    first false b e = refl
    first true b e = absurd cc
none_at test (p ∷ ps) (suc j) d e inside = none_at test ps j d (others (test p) (list_any test ps) e) (omega (arith, inside))
  where
    others : (a b : Bool) → (a || b) ≡ false → b ≡ false
    others false b e = e
    others true b e = absurd cc

absent : (ps : List Place) (p : Place) → list_any (same_place p) ps ≡ false → is_one_of ps p ≡ false
absent ps p e =
    absent_is ps p
    (λ j inside here. let no : same_place p (get_or ps j (place 0 0)) ≡ false = none_at (same_place p) ps j (place 0 0) e inside in
    let yes : same_place p (get_or ps j (place 0 0)) ≡ true = ap (same_place p) here ∙ same_place-refl p in absurd cc)

any_append : (test : Place → Bool) (ps qs : List Place) → list_any test ps ≡ false → list_any test qs ≡ false → list_any test (ps ++ qs) ≡ false
any_append test [] qs e f = f
any_append test (p ∷ ps) qs e f = by (test p) refl (any_append test ps qs)
  where
    by : (a : Bool) → test p ≡ a → (list_any test ps ≡ false → list_any test qs ≡ false → list_any test (ps ++ qs) ≡ false) → list_any test ((p ∷ ps) ++ qs) ≡ false
    by false h rest = rw h (rest (rw h at e) f)
    by true h rest = absurd (let t = (rw h at e) in cc)

any_pieces : (test : Place → Bool) (P : Reg → Type 0) (f : Reg → List Place) (gs : List Reg) → ((g : Reg) → P g → list_any test (f g) ≡ false) → All P gs → list_any test (flat_map f gs) ≡ false
any_pieces test P f [] none each = refl
any_pieces test P f (g ∷ gs) none each =
    any_append test (f g) (flat_map f gs) (none g (each 0 g (omega arith)))
    (any_pieces test P f gs none (λ k d inside. each (suc k) d (omega (arith, inside))))

-- ---- groups in other symbols

any_spanned : (p : Place) (symbol : ℕ) (ks : List ℕ) → nat_eq p.symbol symbol ≡ false → list_any (same_place p) (map (place symbol) ks) ≡ false
any_spanned p symbol [] e = refl
any_spanned p symbol (k ∷ ks) e = rw e (any_spanned p symbol ks e)

other_group : (identity : ℕ) (p : Place) (g : Reg) → nat_eq p.symbol g.symbol ≡ false → list_any (same_place p) (group_places identity g) ≡ false
unfolding group_places
other_group identity p g e =
    any-filter same_place (λ x y h. same_place-true x y h) (λ q. not (is_kept identity q)) p (spanned g)
    ∙ ap (λ b. b && not (is_kept identity p)) (any_spanned p g.symbol (range_with_len g.first (span g.symbol)) e)

abbrev IsLow : Reg → Type 0
IsLow g = g.symbol < 4

low_group : (identity : ℕ) (p : Place) → 4 ≤ p.symbol → (g : Reg) → IsLow g → list_any (same_place p) (group_places identity g) ≡ false
low_group identity p late g low = other_group identity p g (grind (arith, nat_tests))

region_low : (cfi : ℕ) (g : Reg) → is_in_region cfi g ≡ true → IsLow g
region_low cfi g e =
    let inside = and_parts (is_group g) (nat_le g.symbol cfi) e in
    let begins = and_parts (nat_lt g.symbol 4 && nat_lt g.first 72) _ inside.0 in
    ltb-true g.symbol 4 (and_parts (nat_lt g.symbol 4) (nat_lt g.first 72) begins.0).0

past_end : (gs : List Reg) (n : ℕ) (d : Reg) → length gs ≤ n → get_or gs n d ≡ d
past_end [] n d past = refl
past_end (g ∷ gs) zero d past = absurd (omega (arith, past))
past_end (g ∷ gs) (suc n) d past = past_end gs n d (omega (arith, past))

carriers_low : (identity : ℕ) (groups : List Reg) → All IsLow groups → All IsLow (candidate_groups identity groups)
unfolding candidate_groups
carriers_low identity groups low = values_below-All IsLow 36 (quadruplet_group identity groups) (group 0 0) (λ q below. one (group_of_quadruplet identity (length groups) q))
  where
    one : (n : ℕ) → IsLow (get_or groups n (group 0 0))
    one n = elim (cases_lt n (length groups)) [
      | inl inside ↦ low n (group 0 0) inside
      | inr past ↦ subst IsLow (sym (past_end groups n (group 0 0) past)) (omega arith)
    ]

-- ---- the channels

module _ (plan : CellPlan) (symbol k : ℕ) where
  no_indicator : 4 ≤ symbol → is_indicator plan symbol k ≡ false
  unfolding pcfich_places
  no_indicator late =
      absent (pcfich_places plan.identity) (place symbol k)
      (any_pieces (same_place (place symbol k)) IsLow (group_places plan.identity) (pcfich_groups plan.identity) (low_group plan.identity (place symbol k) late)
      (λ j d inside. let first = (pcfich_inside plan.identity j d inside).1 in omega (arith, first)))

  no_control : 4 ≤ symbol → is_one_of (control_places plan) (place symbol k) ≡ false
  unfolding candidate_places
  no_control late =
      let groups : List Reg = pdcch_groups plan.identity plan.cfi plan.duration plan.resource in
      absent (control_places plan) (place symbol k)
      (any_pieces (same_place (place symbol k)) IsLow (group_places plan.identity) (candidate_groups plan.identity groups) (low_group plan.identity (place symbol k) late)
      (carriers_low plan.identity groups (λ j d inside. region_low plan.cfi (get_or groups j d) (pdcch_inside plan.identity plan.cfi plan.duration plan.resource j d inside))))

  not_pdsch : (carrier : Carrier) → is_synchronisation carrier symbol ≡ true → is_shared_of carrier plan.identity plan.cfi plan.start plan.blocks (place symbol k) ≡ false
  not_pdsch carrier e = by (nat_lt plan.cfi symbol && nat_lt symbol (subframe_symbols carrier)) _ _
    where
      by : (a b c : Bool) → (((a && not (is_synchronisation carrier symbol)) && b) && c) ≡ false
      by true b c = rw e refl
      by false b c = refl

  no_shared : (carrier : Carrier) → is_synchronisation carrier symbol ≡ true → is_one_of (assigned_places carrier plan) (place symbol k) ≡ false
  unfolding shared_places_of
  no_shared carrier e =
      let test : Place → Bool = is_shared_of carrier plan.identity plan.cfi plan.start plan.blocks in
      let all = places_of 0 (subframe_symbols carrier) in
      absent (assigned_places carrier plan) (place symbol k)
      (any-filter same_place (λ x y h. same_place-true x y h) test (place symbol k) all
      ∙ ap (λ b. list_any (same_place (place symbol k)) all && b) (not_pdsch carrier e) ∙ and-false _)

synchronised : (symbol n : ℕ) → (symbol ≡ n - 2) ⊎ (symbol ≡ n - 1) → (nat_eq symbol (n - 2) || nat_eq symbol (n - 1)) ≡ true
synchronised symbol n (inl e) = let here : nat_eq symbol (n - 2) ≡ true = grind (arith, nat_tests) in rw here refl
synchronised symbol n (inr e) = let here : nat_eq symbol (n - 1) ≡ true = grind (arith, nat_tests) in rw here (either (nat_eq symbol (n - 2)))
  where
    either : (b : Bool) → (b || true) ≡ true
    either true = refl
    either false = refl

pick : (a : Bool) (x z : Cpx) → (if a && false then x else z) ≡ z
pick true x z = refl
pick false x z = refl

with_seven : (port : Port) (symbol : ℕ) → has_control port ≡ true → (symbol ≡ port_symbols port - 2) ⊎ (symbol ≡ port_symbols port - 1) → (symbol ≡ 5) ⊎ (symbol ≡ 6)
with_seven port symbol has row = subst (λ (n : ℕ). (symbol ≡ n - 2) ⊎ (symbol ≡ n - 1)) (symbols_are port has) row

-- PCFICH, PDCCH and PDSCH do not occupy the last two symbols in a subframe's first slot
no_system : (port : Port) (plan : CellPlan) (sfn subframe symbol k : ℕ) → has_control port ≡ true → (symbol ≡ port_symbols port - 2) ⊎ (symbol ≡ port_symbols port - 1) →
    system_value port plan sfn subframe symbol k ≡ nothing
no_system port plan sfn subframe symbol k has row =
    let late : 4 ≤ symbol = elim (with_seven port symbol has row) [ inl e ↦ omega (arith, e) | inr e ↦ omega (arith, e) ] in
    rw (no_indicator plan symbol k late, no_control plan symbol k late, no_shared plan symbol k port.carrier (synchronised symbol (port_symbols port) row)) (by (has_system_information sfn subframe))
  where
    by : (s : Bool) → (if s && false then control_value port plan sfn symbol k else (if s && false then shared_value port plan sfn symbol k else nothing)) ≡ nothing
    by s = pick s _ _ ∙ pick s _ _

-- PBCH does not occupy the last two symbols in a subframe's first slot
abbrev IsEarly : ℕ → ℕ → Prefix → Type 0
IsEarly subframe symbol prefix = (symbol ≡ symbols_of_slot prefix - 2) ⊎ (symbol ≡ symbols_of_slot prefix - 1) → 2 * subframe + symbol / symbols_of_slot prefix ≡ 1 → 4 ≤ symbol % symbols_of_slot prefix

not_in_slot : (port : Port) (subframe symbol : ℕ) → IsEarly subframe symbol (port_prefix port)
not_in_slot port subframe symbol = with_prefix (IsEarly subframe symbol) one other (port_prefix port) (port_prefix_known port)
  where
    one : IsEarly subframe symbol normal
    one (inl e) slot = absurd (omega (arith, e, slot))
    one (inr e) slot = absurd (omega (arith, e, slot))

    other : IsEarly subframe symbol extended
    other (inl e) slot = absurd (omega (arith, e, slot))
    other (inr e) slot = absurd (omega (arith, e, slot))

none_of_both : (broadcast control : Bool) (x y : Cpx) → broadcast ≡ false → (control ≡ true → y ≡ nothing) → (if broadcast then x else (if control then y else nothing)) ≡ nothing
none_of_both true control x y e f = absurd cc
none_of_both false true x y e f = f refl
none_of_both false false x y e f = refl

-- no channel occupies these two symbols
pub no_channel : (port : Port) (plan : CellPlan) (sfn subframe symbol k : ℕ) → (symbol ≡ port_symbols port - 2) ⊎ (symbol ≡ port_symbols port - 1) → port_channel_value port plan sfn subframe symbol k ≡ nothing
unfolding port_channel_value
no_channel port plan sfn subframe symbol k row =
    none_of_both _ _ _ _ (not_broadcast port plan.identity subframe symbol k (not_in_slot port subframe symbol row)) (λ has. no_system port plan sfn subframe symbol k has row)
