use Rattle.std.proofs.Common.{◌≡◌, ℕ, ◌+◌, ◌*◌, ◌<◌, Bool, false, List, length, get_or, arith, refl, ap, sym, ◌∙◌, length-set}
use Rattle.std.proofs.lemmas.List.FromFn.{fill_by_all}
use Rattle.std.proofs.lemmas.List.Edits.{fill_by_more}
use Rattle.cs_num.specs.Complex.{nothing}
use Rattle.finite.specs.Bits.{xor}
use Rattle.gold.specs.Gold.{gold_bits}
use Rattle.gold.proofs.Bits.{get_or-gold_bits}
use Rattle.conv_code.specs.Code.{coded_word}
use Rattle.conv_code.specs.Reading.{bit_of_item, item_of}
use Rattle.grid_map.specs.Scrambling.{pbch_c_init}
use Rattle.cell_grid.specs.Points.{point_of}
use Rattle.cell_grid.specs.Block.{scrambled_bit}
use Rattle.cell_grid.proofs.block.fill_broadcast.Goals as goal

-- a scrambled bit, from the encoded word and the scrambling sequence
bit_is : (c_init size count n : ℕ) (word : List Bool) (coded : List (List Bool)) (scrambling : List Bool) → length word ≡ size → coded ≡ coded_word word →
    scrambling ≡ gold_bits c_init count → n < count → xor (bit_of_item coded (item_of size n)) (get_or scrambling n false) ≡ scrambled_bit c_init word n
bit_is c_init size count n word coded scrambling e f g inside = rw (sym e, f, g, get_or-gold_bits c_init count n false inside) refl

pub loop-i-preserved : goal.loop-i-preserved
loop-i-preserved c =
    let i : ℕ = c.loop-i.i in
    let n : ℕ = c.args.first + 2 * i in
    let word : List Bool = c.args.word.now in
    let c_init : ℕ = pbch_c_init c.args.id in
    let bits : ℕ → Bool = λ k. scrambled_bit c_init word (c.args.first + k) in
    let size : length word ≡ 40 = c.slice-size.ensures.count in
    let scrambling = c.fill.ensures ∙ ap (λ (k : ℕ). gold_bits k 1920) c.pbch_c_init.ensures.value in
    let inside : n + 1 < 1920 = omega (arith, c.requires, c.loop-i-test.true, c.loop-i.invariant.whole) in
    let next : n + 1 ≡ c.args.first + (2 * i + 1) = omega arith in
    let first = c.scrambled.ensures ∙ bit_is c_init 40 1920 n word _ _ size c.encode-coded.ensures scrambling (omega (arith, inside)) in
    let second = c.scrambled-in-loop-i.ensures ∙ bit_is c_init 40 1920 (n + 1) word _ _ size c.encode-coded.ensures scrambling inside ∙ ap (scrambled_bit c_init word) next in
    let here : c.point.result ≡ point_of bits i = c.point.ensures.point ∙ rw (first, second) refl in
    record {
      whole = length-set c.loop-i.points i _ ∙ c.loop-i.invariant.whole;
      each = rw here (fill_by_more (point_of bits) c.loop-i.points i nothing (omega (arith, c.loop-i.invariant.whole, c.loop-i-test.true)) c.loop-i.invariant.each);
    }

pub returns : goal.returns
returns c =
    fill_by_all (point_of (λ k. scrambled_bit (pbch_c_init c.args.id) c.args.word.now (c.args.first + k))) c.loop-i.points (length c.args.points.now) nothing c.loop-i.invariant.whole
    (λ k inside. c.loop-i.invariant.each k (omega (arith, inside, c.loop-i-test.false, c.loop-i.invariant.whole)))
