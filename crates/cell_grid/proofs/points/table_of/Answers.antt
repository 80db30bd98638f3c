use Rattle.std.proofs.Common.{arith, refl, inl, ℕ, ◌≡◌, ◌+◌, ◌*◌, ◌/◌, ◌%◌, ◌<◌, List, length, get_or, subst, ap₂}
use Rattle.std.proofs.lemmas.List.{get_or-replicate}
use Rattle.grid_map.specs.declared.Place.{Place}
use Rattle.grid_map.specs.Place.{place, index_in}
use Rattle.cell_grid.proofs.PlaceValues.{IsFirstBefore, first_of_all}
use Rattle.cell_grid.proofs.points.table_of.Goals as goal

pub loop-i-init : goal.loop-i-init
loop-i-init c = record {
  whole = refl;
  each = λ k inside. inl (get_or-replicate 1008 k (length c.args.places.now) 0 inside, λ j l e. absurd (omega (arith, l)));
}

number_at : (places : List Place) (numbers : List ℕ) (symbol k : ℕ) → ((c : ℕ) → c < 1008 → IsFirstBefore places (place (c / 72) (c % 72)) (length places) (get_or numbers c 0)) → symbol < 14 → k < 72
    → get_or numbers (72 * symbol + k) 0 ≡ index_in places (place symbol k)
number_at places numbers symbol k each s l =
    let e : (72 * symbol + k) / 72 ≡ symbol = omega (arith, l) in
    let f : (72 * symbol + k) % 72 ≡ k = omega (arith, l) in
    first_of_all places (place symbol k) _
    (subst (λ (p : Place). IsFirstBefore places p (length places) (get_or numbers (72 * symbol + k) 0)) (ap₂ place e f) (each (72 * symbol + k) (omega (arith, s, l))))

pub returns : goal.returns
returns c =
    let last : c.loop-i.i ≡ length c.args.places.now = omega arith in
    record {
      count = refl;
      number = λ symbol k s l. number_at c.args.places.now c.loop-i.numbers symbol k
          (subst (λ (n : ℕ). (d : ℕ) → d < 1008 → IsFirstBefore c.args.places.now (place (d / 72) (d % 72)) n (get_or c.loop-i.numbers d 0)) last c.loop-i.invariant.each) s l;
    }
