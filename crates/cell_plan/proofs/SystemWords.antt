-- The transport block of a plan that can be sent, and the SIB1 text in it.
use Rattle.std.proofs.Common.{◌≡◌, ◌-◌, ◌≤◌, Bool, true, false, List, [], length, replicate, Option, Some, None, Ok, refl, ap, sym, subst, ◌∙◌, arith}
use Rattle.std.specs.Prelude.{IsSomeAnd}
use Rattle.std.specs.Option.{unwrap_or}
use Rattle.cell_plan.proofs.WholeBlocks.{some_is}
use Rattle.std.proofs.lemmas.List.{length-append, length-replicate}
use Rattle.cs_bits.specs.Numbers.{bits_of}
use Rattle.cs_bits.specs.Checks.{crc24a_of, message_of, has_check_24}
use Rattle.cs_bits.proofs.Numbers.{length-bits_of}
use Rattle.cs_bits.proofs.Checks.{checked_24, message_is}
use Rattle.dci.specs.Sizes.{size_of}
use Rattle.sib1.specs.Text.{text_of}
use Rattle.sib1.specs.Message.{Says}
use Rattle.sib1.proofs.Texts.{is_text_of}
use Rattle.sib1.proofs.Messages.{whatever_follows}
use Rattle.cell_plan.specs.declared.cell.CellPlan.{CellPlan}
use Rattle.cell_plan.specs.Transport.{block_size, checked_size, system_text, filled, row_with, shared_word}
use Rattle.cell_plan.specs.Plan.{IsSendableWith}
use Rattle.dci.proofs.SizeRows.{size_fits}
use Rattle.cell_plan.proofs.BlockRows.{IsRowOf, row_of_size}

-- for a plan that can be sent, by either condition on the sent bits of its block
module _ {Enough : Type 0} (plan : CellPlan) (sendable : IsSendableWith Enough plan) where
  -- the table has a size
  pub sized : size_of plan.mcs plan.column ≡ Some (block_size plan)
  sized = some_is (size_of plan.mcs plan.column) sendable.mcs

  -- the interleaver table has a row for the size
  pub row_is : IsRowOf (checked_size plan) (row_with (checked_size plan))
  row_is = row_of_size (checked_size plan) (size_fits plan.mcs plan.column (block_size plan) sized)

  -- the block's CRC passes
  pub word_checked : has_check_24 (shared_word plan) ≡ true
  unfolding shared_word
  word_checked = checked_24 (filled (block_size plan) (system_text plan))

  -- the block without its CRC is the text, followed by zeros
  pub word_message : message_of 24 (shared_word plan) ≡ filled (block_size plan) (system_text plan)
  unfolding shared_word
  word_message =
      message_is 24 (filled (block_size plan) (system_text plan)) (bits_of 24 (crc24a_of (filled (block_size plan) (system_text plan))))
      (length-bits_of 24 (crc24a_of (filled (block_size plan) (system_text plan))))

  -- the text of the plan's fields exists and fits
  record HasText : Type 0 where
    is : text_of plan.sib1 ≡ Some (system_text plan)
    fits : length (system_text plan) ≤ block_size plan

  has_text : HasText
  has_text = there (text_of plan.sib1) refl sendable.text
    where
      there : (o : Option (List Bool)) → text_of plan.sib1 ≡ o → IsSomeAnd o (λ text. length text ≤ block_size plan) → HasText
      there (Some text) e fits = let is : system_text plan ≡ text = ap (λ o. unwrap_or o []) e in record { is = e ∙ ap (λ (t : List Bool). Some t) (sym is); fits = rw is fits }
      there None e none = absurd none

  -- the block has the size of its row
  pub word_size : length (shared_word plan) ≡ checked_size plan
  unfolding shared_word
  word_size =
      let text : List Bool = system_text plan in
      let message : List Bool = filled (block_size plan) text in
      let a = length-append message (bits_of 24 (crc24a_of message)) in
      let b = length-bits_of 24 (crc24a_of message) in
      let c = length-append text (replicate (block_size plan - length text) false) in
      let d = length-replicate (block_size plan - length text) false in
      let fits = has_text.fits in
      omega (arith, a, b, c, d, fits)

  -- the block is decoded to the fields
  pub word_says : Says (message_of 24 (shared_word plan)) (Ok plan.sib1)
  word_says =
      let text : List Bool = system_text plan in
      subst (λ bits. Says bits (Ok plan.sib1)) (sym word_message)
      (whatever_follows text (replicate (block_size plan - length text) false) plan.sib1 (is_text_of text plan.sib1 has_text.is))
