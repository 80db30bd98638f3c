use Rattle.std.proofs.Common.{◌≡◌, ℕ, ◌+◌, ◌*◌, ◌<◌, List, Bool, length, get_or, arith, refl, ◌∙◌, length-set, false}
use Rattle.std.proofs.lemmas.List.FromFn.{fill_by_all}
use Rattle.std.proofs.lemmas.List.Edits.{fill_by_more}
use Rattle.cs_num.specs.Complex.{nothing}
use Rattle.finite.specs.Bits.{xor}
use Rattle.gold.specs.Gold.{gold_bits}
use Rattle.gold.proofs.Bits.{get_or-gold_bits}
use Rattle.cell_grid.specs.Points.{scrambled, point_of}
use Rattle.cell_grid.proofs.points.fill_points.Goals as goal

bit_is : (c_init n : ℕ) (bits sequence : List Bool) → sequence ≡ gold_bits c_init 1224 → n < 1224
    → xor (get_or bits n false) (get_or sequence n false) ≡ scrambled c_init (λ i. get_or bits i false) n
bit_is c_init n bits sequence e inside = rw (e, get_or-gold_bits c_init 1224 n false inside) refl

pub loop-i-preserved : goal.loop-i-preserved
loop-i-preserved c =
    let i : ℕ = c.loop-i.i in
    let bits : ℕ → Bool = λ j. get_or c.args.bits.now j false in
    let first = c.scrambled_at.ensures ∙ bit_is c.args.c_init (2 * i) c.args.bits.now _ c.sequence_of-sequence.ensures (omega arith) in
    let second = c.scrambled_at-in-loop-i.ensures ∙ bit_is c.args.c_init (2 * i + 1) c.args.bits.now _ c.sequence_of-sequence.ensures (omega arith) in
    let here : c.point.result ≡ point_of (scrambled c.args.c_init bits) i = c.point.ensures.point ∙ rw (first, second) refl in
    record {
      whole = length-set c.loop-i.points i _ ∙ c.loop-i.invariant.whole;
      each = rw here (fill_by_more (point_of (scrambled c.args.c_init bits)) c.loop-i.points i nothing (omega (arith, c.loop-i.invariant.whole)) c.loop-i.invariant.each);
    }

pub returns : goal.returns
returns c =
    fill_by_all (point_of (scrambled c.args.c_init (λ j. get_or c.args.bits.now j false))) c.loop-i.points (length c.args.points.now) nothing c.loop-i.invariant.whole
    (λ k inside. c.loop-i.invariant.each k (omega (arith, inside, c.loop-i-test.false)))
