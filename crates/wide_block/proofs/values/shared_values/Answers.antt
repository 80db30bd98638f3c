use Rattle.std.proofs.Common.{ℕ, List, ℤ, length, take, ap, ap₂, sym, ◌∙◌, arith}
use Rattle.std.proofs.lemmas.Result.{IfOk-weaker}
use Rattle.grid_map.specs.Scrambling.{pdsch_c_init}
use Rattle.dci.specs.Fields.{system_information_rnti}
use Rattle.soft_bits.specs.Places.{descrambled}
use Rattle.soft_bits.proofs.Channel.{length-descrambled}
use Rattle.wide_cell.specs.Cell.{Cell}
use Rattle.wide_slot.specs.Values.{placed_values}
use Rattle.wide_block.specs.Sums.{grant_places, shared_values}
use Rattle.wide_block.proofs.values.shared_values.Goals as goal

pub returns-clause-values : goal.returns-clause-values
unfolding shared_values
returns-clause-values c =
    let first = c.args.first.now in
    let identity = c.id.ensures.value ∙ ap (λ (cell : Cell). cell.identity) c.cell-2.ensures in
    let c_init =
    c.pdsch_c_init-c_init.ensures.value
    ∙ ap₂ (λ (identity number : ℕ). pdsch_c_init identity number system_information_rnti) identity (sym c.requires.first) in
    let places = c.deref.ensures.value ∙ c.in_ok-places.ensures ∙ ap (λ (cell : Cell). grant_places cell c.args.cfi c.args.grant.now) c.cell.ensures in
    let front = c.front_of.ensures.front ∙ ap (take 2880) places in
    let values = c.deref-2.ensures.value ∙ c.in_ok-values.ensures.values ∙ ap (placed_values first c.args.second.now) front in
    IfOk-weaker c.descrambled.result _ _ (λ plain h. h ∙ ap₂ (λ (n : ℕ) (zs : List ℤ). descrambled n 0 zs) c_init values) c.descrambled.ensures.values

pub returns-clause-few : goal.returns-clause-few
returns-clause-few c =
    let few = c.in_ok-values.ensures.few in
    let front = c.front_of.ensures.few in
    let same = ap (λ (zs : List ℤ). length zs) c.deref-2.ensures.value in
    IfOk-weaker c.descrambled.result _ _
    (λ plain h.
    let size = ap (λ (zs : List ℤ). length zs) h ∙ length-descrambled c.pdsch_c_init-c_init.result 0 c.deref-2.result.now in
    omega (arith, few, front, same, size)) c.descrambled.ensures.values
