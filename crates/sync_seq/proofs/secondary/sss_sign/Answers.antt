use Rattle.std.proofs.Common.{◌≡◌, ◌∙◌, ◌*ℤ◌, ◌/◌, ◌+◌, ◌%◌, ap, sym}
use Rattle.sync_seq.specs.Secondary.{S, C, Z, period_bits, even_value, odd_value, sign_at}
use Rattle.sync_seq.proofs.SecondaryValues.{kept_product, kept_products, product-size, product_same, shifted_even, shifted_odd}
use Rattle.sync_seq.proofs.secondary.sss_sign.Goals as goal

pub returns-then-k-eq0 : goal.returns-then-k-eq0
returns-then-k-eq0 c =
    let p = c.args in
    let n = p.k / 2 in
    let a = c.s_sign in
    let b = c.c_sign in
    let here : a.result *ℤ b.result ≡ even_value (period_bits S) (period_bits C) p.n2 p.even n =
    product_same a.result b.result (sign_at (period_bits S) (n + p.even)) (sign_at (period_bits C) (n + p.n2))
    a.ensures.value b.ensures.value in
    rw (kept_product a.result b.result a.ensures.small b.ensures.small) (record {
      value = here ∙ sym (shifted_even (period_bits S) (period_bits C) (period_bits Z) p.n2 p.even p.odd p.k c.if-k-eq0.true);
      small = product-size a.result b.result a.ensures.small b.ensures.small;
    })

pub returns-else-k-eq0 : goal.returns-else-k-eq0
returns-else-k-eq0 c =
    let p = c.args in
    let n = p.k / 2 in
    let a = c.s_sign-else-k-eq0 in
    let b = c.c_sign-else-k-eq0 in
    let d = c.z_sign in
    let s = sign_at (period_bits S) (n + p.odd) in
    let t = sign_at (period_bits C) (n + p.n2 + 3) in
    let both : a.result *ℤ b.result ≡ s *ℤ t =
    product_same a.result b.result s t a.ensures.value b.ensures.value in
    let here : a.result *ℤ b.result *ℤ d.result ≡ odd_value (period_bits S) (period_bits C) (period_bits Z) p.n2 p.even p.odd n =
    product_same (a.result *ℤ b.result) d.result (s *ℤ t) (sign_at (period_bits Z) (n + p.even % 8))
    both d.ensures.value in
    let size = product-size a.result b.result a.ensures.small b.ensures.small in
    rw (kept_products a.result b.result d.result a.ensures.small b.ensures.small d.ensures.small) (record {
      value = here ∙ sym (shifted_odd (period_bits S) (period_bits C) (period_bits Z) p.n2 p.even p.odd p.k c.if-k-eq0.false);
      small = product-size (a.result *ℤ b.result) d.result size d.ensures.small;
    })
