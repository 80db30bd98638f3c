use Rattle.std.proofs.Common.{◌≡◌, ◌∙◌, ap, sym, ℤ, to_z, of_z, w32}
use Rattle.tones.proofs.Entries.{cosine_low, cosine_high, cosine_small, kept_short}
use Rattle.tones.specs.Tones.{cosine}
use Rattle.tones.proofs.table.cosine_of.Goals as goal

pub returns-then-m-le1024 : goal.returns-then-m-le1024
returns-then-m-le1024 c =
    let e : c.half_turn_of.result ≡ cosine c.args.m = c.half_turn_of.ensures ∙ sym (cosine_low c.args.m c.if-m-le1024.true) in
    ap (λ (z : ℤ). to_z w32 (of_z w32 z)) e ∙ kept_short (cosine c.args.m) (cosine_small c.args.m)

pub returns-else-m-le1024 : goal.returns-else-m-le1024
returns-else-m-le1024 c =
    let e : c.half_turn_of-else-m-le1024.result ≡ cosine c.args.m = c.half_turn_of-else-m-le1024.ensures ∙ sym (cosine_high c.args.m c.if-m-le1024.false) in
    ap (λ (z : ℤ). to_z w32 (of_z w32 z)) e ∙ kept_short (cosine c.args.m) (cosine_small c.args.m)
