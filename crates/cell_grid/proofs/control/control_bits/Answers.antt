use Rattle.std.proofs.Common.{◌≡◌, ℕ, List, Bool, arith, ap, ap₂, sym, ◌∙◌, length-set, false}
use Rattle.std.proofs.lemmas.List.FromFn.{fill_by_all}
use Rattle.std.proofs.lemmas.List.Edits.{fill_by_more}
use Rattle.conv_code.specs.Code.{coded_word}
use Rattle.conv_code.specs.Reading.{bit_of_item, item_of}
use Rattle.cell_grid.specs.Block.{coded_bit}
use Rattle.cell_grid.specs.Control.{control_word}
use Rattle.cell_grid.proofs.Word.{control_word-length}
use Rattle.cell_grid.proofs.control.control_bits.Goals as goal

pub loop-i-preserved : goal.loop-i-preserved
loop-i-preserved c =
    let coded = c.encode-coded.ensures ∙ ap coded_word c.word_of.ensures in
    let word : List Bool = control_word c.args.cell.now c.args.sfn in
    let here : c.match_out.result ≡ coded_bit word c.loop-i.i =
    c.match_out.ensures ∙ ap₂ (λ d (n : ℕ). bit_of_item d (item_of n c.loop-i.i)) coded (sym (control_word-length c.args.cell.now c.args.sfn)) in
    record {
      whole = length-set c.loop-i.bits c.loop-i.i _ ∙ c.loop-i.invariant.whole;
      each = rw here
          (fill_by_more (coded_bit (control_word c.args.cell.now c.args.sfn)) c.loop-i.bits c.loop-i.i false (omega (arith, c.loop-i.invariant.whole)) c.loop-i.invariant.each);
    }

pub returns : goal.returns
returns c =
    fill_by_all (coded_bit (control_word c.args.cell.now c.args.sfn)) c.loop-i.bits 288 false c.loop-i.invariant.whole
    (λ k inside. c.loop-i.invariant.each k (omega (arith, inside, c.loop-i-test.false)))
