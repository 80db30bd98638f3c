use Rattle.std.proofs.Common.{◌+◌, ◌∙◌, ℕ, ap, sym, Bool, nat_le, List, length}
use Rattle.std.specs.Prelude.{◌&&◌, if◌then◌else◌}
use Rattle.std.proofs.lemmas.Bool.{and_parts, leb-true}
use Rattle.cs_num.specs.declared.Cpx.{Cpx}
use Rattle.cs_num.specs.declared.Sample.{Sample}
use Rattle.cs_num.specs.Complex.{nothing}
use Rattle.frequency_offset.specs.Fine.{is_carried, repeat_sum, symbol_sum}
use Rattle.frequency_offset.proofs.fine.symbol_sum.Goals as goal

pub repeat_sum-requires-clause-last : goal.repeat_sum-requires-clause-last
repeat_sum-requires-clause-last c =
    let u = c.useful_start-u.result in
    let parts = and_parts (is_carried c.args.slot c.args.symbol) (nat_le (u + 128) (length c.args.turned.now)) (sym (c.if-counts.ensures)) in
    leb-true (u + 128) (length c.args.turned.now) parts.1

sum_at : List Sample → ℕ → ℕ → ℕ → Cpx
sum_at samples slot symbol u = if is_carried slot symbol && nat_le (u + 128) (length samples) then repeat_sum samples u else nothing

pub returns-then-counts-clause-value : goal.returns-then-counts-clause-value
unfolding symbol_sum sum_at
returns-then-counts-clause-value c =
    c.repeat_sum.ensures.value ∙ ap (λ (b : Bool). if b then repeat_sum c.args.turned.now c.useful_start-u.result else nothing) c.if-counts.ensures
    ∙ ap (sum_at c.args.turned.now c.args.slot c.args.symbol) c.useful_start-u.ensures

pub returns-else-counts-clause-value : goal.returns-else-counts-clause-value
unfolding symbol_sum sum_at
returns-else-counts-clause-value c =
    ap (λ (b : Bool). if b then repeat_sum c.args.turned.now c.useful_start-u.result else nothing) c.if-counts.ensures
    ∙ ap (sum_at c.args.turned.now c.args.slot c.args.symbol) c.useful_start-u.ensures
