use Rattle.std.proofs.Common.{arith, rules, refl, ◌≡◌, ◌≤◌, ◌+◌, ◌*◌, ◌^◌, ◌∙◌, ap, sym, length, pos, ◌+ℤ◌, ◌*ℤ◌, slice_index_or, to_z, of_z, w64, FitsSigned}
use Rattle.std.specs.Int.{w8, w128}
use Rattle.std.proofs.lemmas.Int.{to_z-of_z, fits_signed_from_abs}
use Rattle.std.proofs.lemmas.List.Elements.{All-get_or}
use Rattle.std.specs.Prelude.{nat_abs}
use Rattle.finite.specs.Sums.{sum_below}
use Rattle.finite.proofs.Integers.{abs-sum}
use Rattle.sync_seq.specs.Secondary.{S, C, Z, period_bits, shifted_value}
use Rattle.sss_detect.specs.Steps.{places_sum}
use Rattle.sss_detect.proofs.Scoring.{places_sum_more, places_sum-size}
use Rattle.sss_detect.proofs.score.places_sum.Goals as goal

pub loop-n-init : goal.loop-n-init
unfolding places_sum sum_below
loop-n-init c = refl

pub overflow_add-sum : goal.overflow_add-sum
overflow_add-sum c =
    let a = c.args.agreements.now in
    let n = c.loop-n.n in
    let long : length a ≡ 62 = search rules in
    let so_far : to_z w128 c.loop-n.sum-bits ≡ places_sum a c.args.n2 c.args.even c.args.odd c.args.first n = c.loop-n.invariant in
    let size = places_sum-size a c.args.n2 c.args.even c.args.odd c.args.first n c.requires.small long c.requires.first (omega arith) in
    let small = c.signed.ensures.small in
    let kept : FitsSigned w64 c.signed.result = fits_signed_from_abs w64 c.signed.result (omega arith) in
    let wide : FitsSigned w128 c.signed.result = fits_signed_from_abs w128 c.signed.result (omega arith) in
    let fits : FitsSigned w128 (places_sum a c.args.n2 c.args.even c.args.odd c.args.first n +ℤ c.signed.result) =
    fits_signed_from_abs w128 _ (omega (arith, abs-sum (places_sum a c.args.n2 c.args.even c.args.odd c.args.first n) c.signed.result)) in
    rw so_far (simp to_z-of_z fits)

pub loop-n-preserved : goal.loop-n-preserved
loop-n-preserved c =
    let a = c.args.agreements.now in
    let n = c.loop-n.n in
    let place = 2 * n + c.args.first in
    let long : length a ≡ 62 = search rules in
    let so_far : to_z w128 c.loop-n.sum-bits ≡ places_sum a c.args.n2 c.args.even c.args.odd c.args.first n = c.loop-n.invariant in
    let size = places_sum-size a c.args.n2 c.args.even c.args.odd c.args.first n c.requires.small long c.requires.first (omega arith) in
    let one = c.sss_sign.ensures.small in
    let less : nat_abs (slice_index_or a place (pos 0)) ≤ 2 ^ 59 = All-get_or (λ x. nat_abs x ≤ 2 ^ 59) a place (pos 0) (omega arith) c.requires.small in
    let sign : FitsSigned w8 c.sss_sign.result = fits_signed_from_abs w8 _ (omega arith) in
    let number : FitsSigned w64 (slice_index_or a place (pos 0)) = fits_signed_from_abs w64 _ (omega arith) in
    let product : c.signed.result ≡ c.sss_sign.result *ℤ slice_index_or a place (pos 0) = simp to_z-of_z at c.signed.ensures.value in
    let value = product ∙ ap (λ s. s *ℤ slice_index_or a place (pos 0)) c.sss_sign.ensures.value in
    let small = c.signed.ensures.small in
    let kept : FitsSigned w64 c.signed.result = fits_signed_from_abs w64 c.signed.result (omega arith) in
    let wide : FitsSigned w128 c.signed.result = fits_signed_from_abs w128 c.signed.result (omega arith) in
    let fits : FitsSigned w128 (places_sum a c.args.n2 c.args.even c.args.odd c.args.first n +ℤ c.signed.result) =
    fits_signed_from_abs w128 _ (omega (arith, abs-sum (places_sum a c.args.n2 c.args.even c.args.odd c.args.first n) c.signed.result)) in
    let all : to_z w128 (of_z w128 (to_z w128 c.loop-n.sum-bits +ℤ to_z w128 (of_z w128 (to_z w64 (of_z w64 c.signed.result))))) ≡ places_sum a c.args.n2 c.args.even c.args.odd c.args.first (n + 1) =
    rw so_far (simp to_z-of_z (ap (λ x. places_sum a c.args.n2 c.args.even c.args.odd c.args.first n +ℤ x) value ∙ sym (places_sum_more a c.args.n2 c.args.even c.args.odd c.args.first n))) in
    all
