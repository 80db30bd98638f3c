-- The values that the code looks up for each channel are the channel's values.
use Rattle.std.proofs.Common.{◌≡◌, ℕ, ◌%◌, subst, ◌≤◌, Bool, true, false, ◌&&◌, List, length, Some, None, if◌then◌else◌, refl, ap, sym, ◌∙◌, arith}
use Rattle.std.specs.Prelude.{All}
use Rattle.finite.specs.Lists.{values_below}
use Rattle.finite.proofs.Lists.{values_below-All, values_below-length}
use Rattle.cs_num.specs.Complex.{IsWithin, nothing}
use Rattle.crs.specs.Qpsk.{IsPoint}
use Rattle.cs_num.specs.declared.Cpx.{Cpx}
use Rattle.grid_map.specs.declared.Place.{Place}
use Rattle.grid_map.specs.Place.{place, index_in}
use Rattle.grid_map.specs.Broadcast.{pbch_places}
use Rattle.grid_map.specs.LongBroadcast.{long_places}
use Rattle.grid_map.specs.Control.{pcfich_places}
use Rattle.grid_map.proofs.Points.{length-pbch_places}
use Rattle.grid_map.proofs.LongOrder.{length-long_places}
use Rattle.grid_map.proofs.Pieces.{length-pcfich_places}
use Rattle.cell_grid.specs.declared.antenna.Port.{Port}
use Rattle.lte_types.specs.Numerology.{is_extended}
use Rattle.cell_plan.specs.declared.cell.CellPlan.{CellPlan}
use Rattle.cell_grid.specs.Ports.{port_prefix, sent_point}
use Rattle.cell_grid.specs.Block.{port_point}
use Rattle.cell_grid.specs.Control.{indicator_point, control_places, control_point}
use Rattle.cell_grid.specs.Shared.{assigned_places, shared_point}
use Rattle.cell_grid.specs.Grid.{is_one_of, broadcast_places, broadcast_symbol, may_broadcast, broadcast_value, has_system_information, control_value, shared_value}
use Rattle.cell_grid.specs.Rows.{value_in, broadcast_if, indicator_if, control_if, shared_if}
use Rattle.cell_grid.proofs.PlaceValues.{values_are}
use Rattle.cell_grid.proofs.Bounds.{full_size}

both_true : (a b c : Bool) → a ≡ true → b ≡ c → b ≡ (a && c)
both_true true b c e f = f
both_true false b c e f = absurd cc

-- a channel's value, looked up in its lists
looked_up : (port : Port) (places : List Place) (points : List Cpx) (n : ℕ) (f : ℕ → Cpx) (p : Place) → points ≡ values_below n f → n % 2 ≡ 0 → length places ≤ n
    → value_in port places points p ≡ (if is_one_of places p then Some (sent_point port f (index_in places p)) else None)
looked_up port places points n f p e even room = ap (λ (zs : List Cpx). value_in port places zs p) e ∙ values_are places p port n f even room

-- a channel's symbols have components with magnitude 90
pub all_small : (points : List Cpx) (n : ℕ) (f : ℕ → Cpx) → points ≡ values_below n f → ((i : ℕ) → IsPoint (f i)) → All (IsWithin 90) points
all_small points n f e full =
    subst (λ (zs : List Cpx). All (IsWithin 90) zs) (sym e)
    (values_below-All (IsWithin 90) n f nothing (λ k below. let z = f k in let p = full k in record { re = omega (arith, full_size z.re p.re); im = omega (arith, full_size z.im p.im) }))

pub so_many : (points : List Cpx) (n : ℕ) (f : ℕ → Cpx) → points ≡ values_below n f → length points ≡ n
so_many points n f e = ap length e ∙ values_below-length n f

-- PBCH has at most 240 resource elements
pub broadcast_count : (port : Port) (identity : ℕ) → length (broadcast_places port identity) ≤ 240
broadcast_count port identity = by (is_extended (port_prefix port))
  where
    by : (b : Bool) → length (if b then long_places identity else pbch_places identity) ≤ 240
    by true = let n = length-long_places identity in omega (arith, n)
    by false = let n = length-pbch_places identity in omega (arith, n)

-- the PBCH value in the symbols where it may occur
pub broadcast_is : (plan : CellPlan) (sfn subframe symbol k : ℕ) (port : Port) (points : List Cpx) → points ≡ values_below 240 (port_point port plan sfn) → may_broadcast port subframe symbol ≡ true →
    value_in port (broadcast_places port plan.identity) points (place (broadcast_symbol port symbol) k) ≡ broadcast_if port plan sfn subframe symbol k
broadcast_is plan sfn subframe symbol k port points is e =
    looked_up port (broadcast_places port plan.identity) points 240 (port_point port plan sfn) (place (broadcast_symbol port symbol) k) is refl (broadcast_count port plan.identity)
    ∙ ap (λ (b : Bool). if b then Some (broadcast_value port plan sfn symbol k) else None) (both_true (may_broadcast port subframe symbol) _ _ e refl)

module _ (port : Port) (plan : CellPlan) (sfn subframe symbol k : ℕ) where
  abbrev here : Place
  here = place symbol k

  pub indicator_is : (points : List Cpx) → points ≡ values_below 16 (indicator_point plan subframe) → value_in port (pcfich_places plan.identity) points here ≡ indicator_if port plan subframe symbol k
  indicator_is points is = looked_up port (pcfich_places plan.identity) points 16 (indicator_point plan subframe) here is refl (let n = length-pcfich_places plan.identity in omega (arith, n))

  pub control_is : (points : List Cpx) → points ≡ values_below 144 (control_point plan sfn) → length (control_places plan) ≡ 144 → has_system_information sfn subframe ≡ true
      → value_in port (control_places plan) points here ≡ control_if port plan sfn subframe symbol k
  control_is points is whole e =
      looked_up port (control_places plan) points 144 (control_point plan sfn) here is refl (omega (arith, whole))
      ∙ ap (λ (b : Bool). if b then Some (control_value port plan sfn symbol k) else None) (both_true (has_system_information sfn subframe) _ _ e refl)

  pub shared_is : (points : List Cpx) → points ≡ values_below 612 (shared_point plan sfn) → length (assigned_places port.carrier plan) ≤ 612 → has_system_information sfn subframe ≡ true
      → value_in port (assigned_places port.carrier plan) points here ≡ shared_if port plan sfn subframe symbol k
  shared_is points is few e =
      looked_up port (assigned_places port.carrier plan) points 612 (shared_point plan sfn) here is refl few
      ∙ ap (λ (b : Bool). if b then Some (shared_value port plan sfn symbol k) else None) (both_true (has_system_information sfn subframe) _ _ e refl)
