use Rattle.std.proofs.Common.{◌≡◌, ◌∙◌, ℕ, ◌+◌, ◌*◌, ◌≤◌, [], pos, nat_abs, arith, ap, subst}
use Rattle.std.proofs.lemmas.List.{get_or_default}
use Rattle.std.proofs.lemmas.List.Elements.{All-replicate}
use Rattle.finite.specs.Sizes.{AllWithin, RowsWithin}
use Rattle.added_master.specs.Sums.{added_sums, added_to}
use Rattle.added_master.proofs.Adding.{sums_so_far, no_sums, more_sums, more-within, rows-wider}
use Rattle.added_master.proofs.sums.added_sums.Goals as goal

pub loop-d-init : goal.loop-d-init
loop-d-init c = record {
  so_far = no_sums c.args.sums.now c.args.upper;
  small = All-replicate (AllWithin 0) 40 _ (All-replicate (λ z. nat_abs z ≤ 0) 3 (pos 0) (omega arith));
}

pub plus-added-requires-clause-sums : goal.plus-added-requires-clause-sums
plus-added-requires-clause-sums c = rows-wider (c.loop-d.d * 2032) 65536 c.loop-d.added (omega (arith, c.loop-d-test.true)) c.loop-d.invariant.small

pub loop-d-preserved : goal.loop-d-preserved
loop-d-preserved c =
    let d = c.loop-d.d in
    let next : d * 2032 + 2032 ≡ (d + 1) * 2032 = omega arith in
    rw c.plus-added.ensures (record {
      so_far = more_sums d c.args.sums.now c.args.upper c.loop-d.added c.rows.result c.changed_bits.result c.loop-d.invariant.so_far
          (c.rows.ensures.rows ∙ get_or_default c.args.sums.now d _ [] (omega (arith, c.told-sums, c.loop-d-test.true))) c.changed_bits.ensures;
      small = subst (λ (n : ℕ). RowsWithin n (added_to c.loop-d.added c.rows.result c.changed_bits.result)) next
          (more-within (d * 2032) c.loop-d.added c.rows.result c.changed_bits.result c.loop-d.invariant.small c.rows.ensures.magnitudes);
    })

pub returns-clause-sums : goal.returns-clause-sums
unfolding added_sums
returns-clause-sums c =
    let last : c.loop-d.d ≡ 5 = omega arith in
    c.loop-d.invariant.so_far ∙ ap (λ (d : ℕ). sums_so_far d c.args.sums.now c.args.upper) last

pub returns-clause-magnitudes : goal.returns-clause-magnitudes
returns-clause-magnitudes c = rows-wider (c.loop-d.d * 2032) 1048576 c.loop-d.added (let last : c.loop-d.d ≡ 5 = omega arith in omega (arith, last)) c.loop-d.invariant.small
