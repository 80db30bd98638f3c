use Rattle.std.proofs.Common.{◌≡◌, ◌∙◌, ◌++◌, List, ℤ, length, take, drop, ap, arith, sym, subst}
use Rattle.std.specs.List.{flat_map}
use Rattle.std.proofs.Math.Seq.{take-append_seam}
use Rattle.finite.specs.Sizes.{AllWithin, RowsWithin}
use Rattle.grid_map.specs.Scrambling.{pbch_c_init}
use Rattle.soft_bits.specs.Places.{descrambled}
use Rattle.soft_bits.proofs.Channel.{length-descrambled}
use Rattle.conv_code.specs.Reading.{summed_from}
use Rattle.pbch.specs.Values.{summed_values}
use Rattle.pbch.proofs.FrameSums.{summed_values-small}
use Rattle.pbch.proofs.broadcast.sums_by.Goals as goal

pub returns-clause-values : goal.returns-clause-values
unfolding summed_values
returns-clause-values c =
    let old = c.joined-values.result.items in
    let new = c.descramble.new.values in
    let size : length new ≡ length old =
    ap (λ (values : List ℤ). length values) c.descramble.ensures.values ∙ length-descrambled _ c.args.first c.as_mut_slice.result.now
    ∙ ap (λ (values : List ℤ). length values) c.as_mut_slice.ensures.value in
    let front : c.as_slice.result.now ≡ new =
    c.as_slice.ensures.value ∙ ap (λ n. take n (new ++ drop (length new) old)) (sym size) ∙ take-append_seam new (drop (length new) old) in
    c.combine_from.ensures.sums ∙ ap (summed_from c.args.first 40) (front ∙ c.descramble.ensures.values
    ∙ ap (descrambled (pbch_c_init c.args.cell.now) c.args.first) (c.as_mut_slice.ensures.value ∙ c.joined-values.ensures.values))

pub returns-clause-magnitudes : goal.returns-clause-magnitudes
returns-clause-magnitudes c =
    let received = flat_map (λ (frame : List ℤ). frame) c.args.frames.now in
    let few = c.requires.period in
    let many = c.joined-values.ensures.count in
    let all = ap (λ (values : List ℤ). length values) c.joined-values.ensures.values in
    subst (RowsWithin 2032) (sym (returns-clause-values c))
    (summed_values-small c.args.cell.now c.args.first received (subst (AllWithin 127) c.joined-values.ensures.values c.joined-values.ensures.magnitudes) (omega (arith, many, few, all)))
