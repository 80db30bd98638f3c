use Rattle.std.proofs.Common.{arith, ◌≡◌, ◌∙◌, ap, pos, length-set}
use Rattle.std.proofs.lemmas.List.FromFn.{fill_by_all}
use Rattle.std.proofs.lemmas.List.Edits.{fill_by_more}
use Rattle.sync_seq.specs.Secondary.{S, C, Z, period_bits, even_shift, shifted_value, sss_at, sss_list}
use Rattle.sync_seq.proofs.SecondaryValues.{kept_sign}
use Rattle.sync_seq.proofs.secondary.sss.Goals as goal

pub loop-k-preserved : goal.loop-k-preserved
unfolding sss_at
loop-k-preserved c =
    let kept = kept_sign c.sss_sign.result c.sss_sign.ensures.small in
    let here : c.sss_sign.result ≡ sss_at c.args.n1 c.args.n2 c.args.half c.loop-k.k =
    c.sss_sign.ensures.value
    ∙ ap (λ even. shifted_value (period_bits S) (period_bits C) (period_bits Z) c.args.n2 even c.sss_shifts-even.result.1 c.loop-k.k) c.sss_shifts-even.ensures.even
    ∙ ap (λ odd. shifted_value (period_bits S) (period_bits C) (period_bits Z) c.args.n2 (even_shift c.args.half c.args.n1) odd c.loop-k.k) c.sss_shifts-even.ensures.odd in
    record {
      whole = length-set c.loop-k.values c.loop-k.k _ ∙ c.loop-k.invariant.whole;
      each = rw (kept, here) (fill_by_more (sss_at c.args.n1 c.args.n2 c.args.half) c.loop-k.values c.loop-k.k (pos 0) (omega arith) c.loop-k.invariant.each);
    }

pub returns : goal.returns
unfolding sss_list
returns c =
    let last : c.loop-k.k ≡ 62 = omega arith in
    fill_by_all (sss_at c.args.n1 c.args.n2 c.args.half) c.loop-k.values 62 (pos 0) c.loop-k.invariant.whole (λ k l. c.loop-k.invariant.each k (omega arith))
