use Rattle.std.proofs.Common.{arith, ℕ, ◌-◌, ◌≡◌, ◌∙◌, ap, ap₂, sym, subst, [], ◌∷◌}
use Rattle.std.proofs.lemmas.List.Elements.{All-cons, All-nil}
use Rattle.cs_num.specs.Complex.{IsWithin, plus, minus, times_j}
use Rattle.cs_num.proofs.Complex.{within_more, plus-within, minus-within, times_j-within}
use Rattle.pss_search.specs.declared.products.ProductSums.{ProductSums}
use Rattle.pss_search.specs.Products.{products_of, with_conjugate_of, with_signal_of, wave_re, wave_im, correlation_at}
use Rattle.pss_search.proofs.Correlations.{by_conjugate, by_signal, roots_share}
use Rattle.pss_search.proofs.products.correlations.Goals as goal

pub returns-clause-value : goal.returns-clause-value
returns-clause-value c =
    let samples = c.args.samples.now in
    let t = c.args.t in
    let s = c.args.stretch.now in
    let four : ℕ → ProductSums = λ n2. products_of s (t - s.from) (wave_re n2) (wave_im n2) in
    let own : c.product_sums-own.result ≡ four 0 = c.product_sums-own.ensures.value in
    let shared : c.product_sums-shared.result ≡ four 1 = c.product_sums-shared.ensures.value in
    let by : (n2 : ℕ) → with_conjugate_of (four n2) ≡ correlation_at samples t n2 =
    λ n2. by_conjugate samples s t n2 c.requires.held c.requires.from c.requires.reached in
    let e0 : c.with_conjugate.result ≡ correlation_at samples t 0 = c.with_conjugate.ensures.value ∙ ap with_conjugate_of own ∙ by 0 in
    let e1 : c.with_conjugate-2.result ≡ correlation_at samples t 1 = c.with_conjugate-2.ensures.value ∙ ap with_conjugate_of shared ∙ by 1 in
    let e2 : c.sub.result ≡ correlation_at samples t 2 =
    c.sub.ensures
    ∙ ap₂ minus (c.with_signal.ensures.value ∙ ap with_signal_of shared ∙ by_signal samples s t 1 c.requires.held c.requires.from c.requires.reached)
    (c.times_j.ensures ∙ ap times_j (c.add-ends.ensures ∙ ap₂ plus c.from.ensures.0 c.from-2.ensures.0))
    ∙ sym (roots_share samples t) in
    cc

pub sub-requires : goal.sub-requires
sub-requires c =
    let both = plus-within c.from.result c.from-2.result 32768 32768 65536 c.from.ensures.1 c.from-2.ensures.1 (omega arith) in
    let turned : IsWithin 65536 c.times_j.result = subst (IsWithin 65536) (sym (c.times_j.ensures ∙ ap times_j c.add-ends.ensures)) (times_j-within (plus c.from.result c.from-2.result) 65536 both) in
    let small = c.with_signal.ensures.small in
    omega (arith, turned.re, turned.im, small.re, small.im)

pub returns-clause-small : goal.returns-clause-small
returns-clause-small c =
    let both = plus-within c.from.result c.from-2.result 32768 32768 65536 c.from.ensures.1 c.from-2.ensures.1 (omega arith) in
    let turned : IsWithin 65536 c.times_j.result = subst (IsWithin 65536) (sym (c.times_j.ensures ∙ ap times_j c.add-ends.ensures)) (times_j-within (plus c.from.result c.from-2.result) 65536 both) in
    let third : IsWithin 2147483648 c.sub.result = subst (IsWithin 2147483648) (sym c.sub.ensures)
    (minus-within c.with_signal.result c.times_j.result 2139095040 65536 2147483648 c.with_signal.ensures.small turned (omega arith)) in
    let first = within_more c.with_conjugate.result 2139095040 2147483648 c.with_conjugate.ensures.small (omega arith) in
    let second = within_more c.with_conjugate-2.result 2139095040 2147483648 c.with_conjugate-2.ensures.small (omega arith) in
    All-cons (IsWithin 2147483648) c.with_conjugate.result (c.with_conjugate-2.result ∷ c.sub.result ∷ []) first
    (All-cons (IsWithin 2147483648) c.with_conjugate-2.result (c.sub.result ∷ []) second
    (All-cons (IsWithin 2147483648) c.sub.result [] third (All-nil (IsWithin 2147483648))))
