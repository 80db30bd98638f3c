-- An accepted certificate implies that no word costs less.
use Rattle.std.proofs.Common.{◌≡◌, ℕ, suc, ◌+◌, ◌^◌, ◌<◌, ◌≤◌, Bool, List, [], Option, Some, None, length, get_or, ℤ, refl, ap, inl, inr, arith}
use Rattle.std.proofs.lemmas.Bool.{eq-eqb}
use Rattle.std.proofs.lemmas.Bool.Decides.{eqb_tells}
use Rattle.trellis.specs.Paths.{path_cost, end_of}
use Rattle.trellis.proofs.Potential.{potential-le}
use Rattle.tailbite.specs.Machine.{shift, step_cost}
use Rattle.tailbite.proofs.Windows.{same_end, end_below, shift_below}
use Rattle.tailbite.proofs.Branches.{word_cost-path}
use Rattle.tail_cert.specs.Certificate.{Held, IsAccepted, IsLowerBound, IsMaybeTable, IsRow, IsTable, IsWhole, StartHolds, StepsHold, bound, from_any, from_state, unbounded}

-- every bound in a table is at most the entry that bounds nothing
entry_below : (table : List (List ℕ)) → IsTable table → (i x : ℕ) → i < 40 → x < 64 → get_or (get_or table i []) x 0 < 2 ^ 32
entry_below table size i x inside below =
    let rows = size.count in
    let row : IsRow (get_or table i []) = size.all i [] (omega (arith, rows, inside)) in
    let states = row.count in
    row.all x 0 (omega (arith, states, below))

-- along each branch, a bound rises by at most the branch's cost
rises : (values : List (List ℤ)) (first : ℕ → ℕ) (table : List (List ℕ)) → IsTable table → StepsHold values first table →
    (i x : ℕ) (b : Bool) → i < 40 → x < 64 → bound first table (suc i) (shift x b) ≤ bound first table i x + step_cost values i x b
rises values first table size holds i x b inside below = elim (eqb_tells (bound first table i x) unbounded) [
  | inl (t, same) ↦ let small = entry_below table size i (shift x b) inside (shift_below x b below) in omega (arith, same, small)
  | inr (f, other) ↦ holds i x b inside below other
]

-- the bound after 40 steps back to state s is at most the cost of each path there
path_bounded : (values : List (List ℤ)) (first : ℕ → ℕ) (table : List (List ℕ)) → IsTable table → StepsHold values first table →
    (s : ℕ) → s < 64 → (bs : List Bool) → length bs ≡ 40 → end_of shift s bs ≡ s →
    bound first table 40 s ≤ first s + path_cost shift (step_cost values) 0 s bs
path_bounded values first table size holds s below bs long back =
    let total = potential-le shift (step_cost values) (bound first table) 64 40 shift_below (rises values first table size holds) 0 s bs below (omega (arith, long)) in
    let end_is = ap (bound first table 40) back in
    omega (arith, total, end_is)

-- the certificate's cost is at most that of each path, by the state's own table or the general one
start_bounded : (values : List (List ℤ)) (cost : ℕ) (general : List (List ℕ)) (s : ℕ) (maybe : Option (List (List ℕ))) → IsTable general →
    StepsHold values from_any general → IsMaybeTable maybe → StartHolds values cost general s maybe → s < 64 →
    (bs : List Bool) → length bs ≡ 40 → end_of shift s bs ≡ s → cost ≤ path_cost shift (step_cost values) 0 s bs
start_bounded values cost general s None size holds none start below bs long back =
    let total = path_bounded values from_any general size holds s below bs long back in
    omega (arith, total, start)
start_bounded values cost general s (Some table) size holds own (steps, ends) below bs long back =
    let total = path_bounded values (from_state s) table own steps s below bs long back in
    let start : from_state s s ≡ 0 = rw (eq-eqb s s refl) refl in
    omega (arith, total, start, ends)

pub lower_bound : (c : Held) → IsWhole c → IsAccepted c → IsLowerBound c.values c.cost
lower_bound c whole accepted other size =
    let s = end_of shift 0 other in
    let below : s < 64 = end_below 0 other (omega arith) in
    let back : end_of shift s other ≡ s = same_end s 0 other below (omega arith) (omega (arith, size)) in
    let places = whole.places.count in
    let starts = whole.starts.count in
    rw (word_cost-path c.values other (omega (arith, size, places)) (omega (arith, size)))
    (start_bounded c.values c.cost c.general s (get_or c.tables s None) whole.general accepted.general
    (whole.starts.all s None (omega (arith, starts, below))) (accepted.starts s below) below other size back)
