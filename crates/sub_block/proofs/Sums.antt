-- Equal items, and sums of soft values by stream and index.
use Rattle.std.proofs.Common.{◌≡◌, ℕ, Bool, true, List, ℤ, refl, ap, ap₂, ◌∙◌, arith}
use Rattle.std.specs.Prelude.{◌&&◌}
use Rattle.std.proofs.lemmas.Bool.{eq-eqb}
use Rattle.std.proofs.lemmas.Bool.Decides.{nat_tests}
use Rattle.finite.specs.Lists.{values_below}
use Rattle.finite.specs.Sums.{sum_below}
use Rattle.finite.proofs.Tables.{share}
use Rattle.sub_block.specs.declared.Item.{Item}
use Rattle.sub_block.specs.Items.{item, is_at, summed_at}

pub at_itself : (here : Item) → is_at here.stream here.index here ≡ true
at_itself here = ap₂ (λ (a b : Bool). a && b) (eq-eqb here.stream here.stream refl) (eq-eqb here.index here.index refl)

pub same_item : (here : Item) (t p : ℕ) → is_at t p here ≡ true → here ≡ item t p
same_item here t p h =
    let stream : here.stream ≡ t = grind (arith, nat_tests, h) in
    let index : here.index ≡ p = grind (arith, nat_tests, h) in
    ap (λ (n : ℕ). item n here.index) stream ∙ ap (λ (n : ℕ). item t n) index

-- a table with one row per stream
pub table_by_stream : (reading : ℕ → Item) (values : List ℤ) (m rows columns : ℕ) →
    values_below rows (λ t. values_below columns (λ p. sum_below m (share (λ i. (reading i).stream) (λ i. (reading i).index) values t p)))
    ≡ values_below rows (λ t. values_below columns (summed_at reading values m t))
unfolding summed_at
table_by_stream reading values m rows columns = refl
