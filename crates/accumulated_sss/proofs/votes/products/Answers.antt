use Rattle.std.proofs.Common.{◌≡◌, ◌∙◌, ◌-◌, ℕ, List, ap, ap₂, arith}
use Rattle.finite.specs.Lists.{values_below}
use Rattle.finite.proofs.Lists.{values_below_at, values_below_same}
use Rattle.cs_num.specs.declared.Cpx.{Cpx}
use Rattle.cs_num.specs.declared.Sample.{Sample}
use Rattle.cs_num.specs.Complex.{nothing, value_at}
use Rattle.sync_seq.specs.Middle.{middle}
use Rattle.observe.specs.Seen.{seen, seen_symbol}
use Rattle.pss_search.specs.Products.{correlation_at}
use Rattle.accumulated_sss.specs.Votes.{product}
use Rattle.accumulated_sss.specs.Steps.{product_of, products_of}
use Rattle.accumulated_sss.proofs.votes.products.Goals as goal

from_symbol : (recording : List Sample) (n2 at : ℕ) → products_of (seen_symbol recording (at - 137)) (correlation_at recording at n2) ≡ values_below 62 (product recording n2 at)
unfolding products_of seen_symbol product
from_symbol recording n2 at =
    values_below_same 62 (λ n. product_of (value_at (seen_symbol recording (at - 137)) (middle n)) (correlation_at recording at n2)) (product recording n2 at)
    (λ n l. ap (λ (v : Cpx). product_of v (correlation_at recording at n2)) (values_below_at (seen recording (at - 137)) 72 (middle n) nothing (omega (arith, l))))

pub returns-clause-value : goal.returns-clause-value
returns-clause-value c =
    c.products_with.ensures.value
    ∙ ap₂ products_of (c.symbol.ensures.value ∙ ap (λ s. seen_symbol c.args.recording.now (c.args.at - s)) c.step.ensures)
    (c.correlation-z.ensures.value ∙ ap (λ (r : List Sample). correlation_at r c.args.at c.args.n2) c.as_slice.ensures.value)
    ∙ from_symbol c.args.recording.now c.args.n2 c.args.at
