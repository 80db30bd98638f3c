-- Groups: where the PCFICH's begin, and their resource elements.
use Rattle.std.proofs.Common.{ℕ, zero, suc, length, ◌+◌, ◌-◌, ◌*◌, ◌/◌, ◌%◌, ◌<◌, ◌≤◌, ◌≡◌, ◌++◌, ◌∷◌, [], Bool, true, false, not, ◌&&◌, cond, nat_eq, nat_lt, List, map, filter, refl, sym, ◌∙◌, subst, arith}
use Rattle.std.specs.List.{All, range_with_len}
use Rattle.std.proofs.Math.Arith.{mod-mul}
use Rattle.std.proofs.lemmas.Bool.{and_parts, ltb-true, eqb-true}
use Rattle.std.proofs.lemmas.List.Elements.{All-map, All-filter}
use Rattle.std.proofs.lemmas.List.FromFn.{length-range_with_len, get_or-range_with_len, filter_of_map_range_with_len_more}
use Rattle.std.proofs.lemmas.List.{append_assoc}
use Rattle.wide_cell.specs.declared.place.WidePlace.{WidePlace}
use Rattle.wide_cell.specs.Cell.{Cell}
use Rattle.wide_cell.specs.Place.{place}
use Rattle.wide_grid.specs.declared.group.WideReg.{WideReg}
use Rattle.wide_grid.specs.Group.{is_group, is_reserved, has_reference, span, group_places}

-- a multiple of 6, modulo the subcarriers, is a multiple of 6
pub mod_whole : (n blocks : ℕ) → 0 < blocks → n % 6 ≡ 0 → n % (12 * blocks) % 6 ≡ 0
mod_whole n blocks some e =
    let split : n % (2 * blocks * 6) ≡ (n / 6 % (2 * blocks)) * 6 + n % 6 = mod-mul n {m = 2 * blocks} {c = 6} (omega arith) (omega arith) in
    let same : 2 * blocks * 6 ≡ 12 * blocks = omega arith in
    let split' = rw same at split in
    omega (arith, split', e)

-- a group's span ends inside the subcarriers
span_ends : (b : Bool) (blocks first j : ℕ) → first < 12 * blocks → first % cond b 6 4 ≡ 0 → j < cond b 6 4 → first + j < 12 * blocks
span_ends true blocks first j l e m = omega arith
span_ends false blocks first j l e m = omega arith

-- the resource elements of a span are inside the subframe
span_inside : (b : Bool) (blocks symbol first : ℕ) → symbol < 4 → first < 12 * blocks → first % cond b 6 4 ≡ 0 →
    All (λ k. (symbol < 14) × (k < 12 * blocks)) (range_with_len first (cond b 6 4))
span_inside b blocks symbol first few l e j d m =
    let inside : j < cond b 6 4 = subst (λ n. j < n) (length-range_with_len first (cond b 6 4)) m in
    let early : symbol < 14 = omega (arith, few) in
    (early, subst (λ k. k < 12 * blocks) (sym (get_or-range_with_len first (cond b 6 4) j d inside)) (span_ends b blocks first j l e inside))

pub group_inside : (cell : Cell) (g : WideReg) → is_group cell g ≡ true →
    All (λ (p : WidePlace). (p.symbol < 14) × (p.k < 12 * cell.blocks)) (group_places cell g)
unfolding group_places
group_inside cell g is =
    let parts = and_parts (nat_lt g.symbol 4 && nat_lt g.first (12 * cell.blocks)) (nat_eq (g.first % span cell.ports g.symbol) 0) is in
    let front = and_parts (nat_lt g.symbol 4) (nat_lt g.first (12 * cell.blocks)) parts.0 in
    All-filter (λ p. not (is_reserved cell p)) (λ (p : WidePlace). (p.symbol < 14) × (p.k < 12 * cell.blocks))
    (map (place g.symbol) (range_with_len g.first (span cell.ports g.symbol)))
    (All-map (λ (p : WidePlace). (p.symbol < 14) × (p.k < 12 * cell.blocks)) (place g.symbol) (range_with_len g.first (span cell.ports g.symbol))
    (span_inside (has_reference cell.ports g.symbol) cell.blocks g.symbol g.first (ltb-true g.symbol 4 front.0)
    (ltb-true g.first (12 * cell.blocks) front.1) (eqb-true (g.first % span cell.ports g.symbol) 0 parts.1)))

-- ---- a loop over a group's span

-- the resource elements among the first n in a span that are not left out
abbrev pub spanned : Cell → ℕ → ℕ → ℕ → List WidePlace
spanned cell symbol first n = filter (λ p. not (is_reserved cell p)) (map (place symbol) (range_with_len first n))

pub span_more : (cell : Cell) (symbol first k : ℕ) (old before after : List WidePlace) (b : Bool) → first ≤ k →
    before ≡ old ++ spanned cell symbol first (k - first) → b ≡ not (is_reserved cell (place symbol k)) →
    after ≡ before ++ cond b (place symbol k ∷ []) [] → after ≡ old ++ spanned cell symbol first (k + 1 - first)
span_more cell symbol first k old before after b l is e add =
    let step = filter_of_map_range_with_len_more (λ p. not (is_reserved cell p)) (place symbol) first (k - first) k (omega arith) in
    let next : k + 1 - first ≡ k - first + 1 = omega arith in
    rw (next, step) (add ∙ rw (is, e) (append_assoc old (spanned cell symbol first (k - first)) (cond (not (is_reserved cell (place symbol k))) (place symbol k ∷ []) [])))

pub span_all : (cell : Cell) (g : WideReg) (k : ℕ) (old items : List WidePlace) → k - g.first ≡ span cell.ports g.symbol →
    items ≡ old ++ spanned cell g.symbol g.first (k - g.first) → items ≡ old ++ group_places cell g
unfolding group_places
span_all cell g k old items e is = is ∙ rw e refl

-- ---- a group has four resource elements

four_of_six : (symbol first s : ℕ) (t : ℕ → Bool) → first % 6 ≡ 0 → s < 3 → t symbol ≡ true →
    length (filter (λ (p : WidePlace). not (t p.symbol && nat_eq (p.k % 3) s)) (map (place symbol) (range_with_len first 6))) ≡ 4
four_of_six symbol first s t e few has = cases s few
  where
    e0 : first % 3 ≡ 0
    e0 = omega arith

    e1 : (first + 1) % 3 ≡ 1
    e1 = omega arith

    e2 : (first + 1 + 1) % 3 ≡ 2
    e2 = omega arith

    e3 : (first + 1 + 1 + 1) % 3 ≡ 0
    e3 = omega arith

    e4 : (first + 1 + 1 + 1 + 1) % 3 ≡ 1
    e4 = omega arith

    e5 : (first + 1 + 1 + 1 + 1 + 1) % 3 ≡ 2
    e5 = omega arith

    cases : (s : ℕ) → s < 3 →
        length (filter (λ (p : WidePlace). not (t p.symbol && nat_eq (p.k % 3) s)) (map (place symbol) (range_with_len first 6))) ≡ 4
    cases zero l = simp (has, e0, e1, e2, e3, e4, e5) refl
    cases (suc zero) l = simp (has, e0, e1, e2, e3, e4, e5) refl
    cases (suc (suc zero)) l = simp (has, e0, e1, e2, e3, e4, e5) refl
    cases (suc (suc (suc s))) l = absurd (omega arith)

four_of_four : (symbol first s : ℕ) (t : ℕ → Bool) → t symbol ≡ false →
    length (filter (λ (p : WidePlace). not (t p.symbol && nat_eq (p.k % 3) s)) (map (place symbol) (range_with_len first 4))) ≡ 4
four_of_four symbol first s t lacks = simp lacks refl

pub group_four : (cell : Cell) (g : WideReg) → is_group cell g ≡ true → length (group_places cell g) ≡ 4
unfolding group_places
group_four cell g is =
    pick (has_reference cell.ports g.symbol) refl
    (eqb-true (g.first % span cell.ports g.symbol) 0
    (and_parts (nat_lt g.symbol 4 && nat_lt g.first (12 * cell.blocks)) (nat_eq (g.first % span cell.ports g.symbol) 0) is).1)
  where
    pick : (b : Bool) → has_reference cell.ports g.symbol ≡ b → g.first % cond b 6 4 ≡ 0 →
        length (filter (λ p. not (is_reserved cell p)) (map (place g.symbol) (range_with_len g.first (cond b 6 4)))) ≡ 4
    pick true e m = four_of_six g.symbol g.first (cell.identity % 3) (has_reference cell.ports) m (omega arith) e
    pick false e m = four_of_four g.symbol g.first (cell.identity % 3) (has_reference cell.ports) e
