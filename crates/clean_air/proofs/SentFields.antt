-- Soft values with the signs of the bits of a plan's transport block give the plan's SIB1 fields.
use Rattle.std.proofs.Common.{◌≡◌, ℕ, true, inl, List, Ok, ℤ, refl, sym, subst, ◌∙◌}
use Rattle.cs_bits.specs.Checks.{message_of}
use Rattle.turbo_code.specs.declared.rows.Row.{Row}
use Rattle.turbo_code.specs.Encoder.{coded}
use Rattle.turbo_code.specs.Reading.{item_of, bit_of}
use Rattle.erasure.specs.Known.{resolvable, sent_of}
use Rattle.sib1_reader.specs.Block.{BlockSays}
use Rattle.cell_plan.specs.declared.cell.CellPlan.{CellPlan}
use Rattle.cell_plan.specs.Plan.{IsSendableWith}
use Rattle.cell_plan.specs.Transport.{checked_size, row_with, shared_word, shared_coded}
use Rattle.cell_plan.proofs.BlockRows.{IsRowOf}
use Rattle.cell_plan.proofs.SystemWords.{row_is, word_checked, word_size, word_says}
use Rattle.cell_grid.specs.Control.{version_of, grant_of}
use Rattle.cell_grid.specs.Shared.{shared_bit}
use Rattle.cell_grid.proofs.Grants.{version-fits}
use Rattle.clean_air.specs.Block.{matched_bit}
use Rattle.clean_air.specs.Carried.{AreHeard}
use Rattle.clean_air.proofs.SharedBlocks.{heard_block_is_decoded}

module _ {Enough : Type 0} (plan : CellPlan) (sendable : IsSendableWith Enough plan) (number count : ℕ) (values : List ℤ) (heard : AreHeard 1 count (shared_bit plan number) values) where
  -- the bits are the word's after rate matching
  matched_heard : (row : Row) → row ≡ row_with (checked_size plan) → row.k ≡ checked_size plan → AreHeard 1 count (matched_bit row (version_of number) (shared_word plan)) values
  unfolding shared_coded
  matched_heard row same k =
      subst (λ (r : Row). AreHeard 1 count (λ i. bit_of (coded r (shared_word plan)) (item_of row.k (version_of number) i)) values) (sym same)
      (subst (λ (n : ℕ). AreHeard 1 count (λ i. bit_of (coded (row_with (checked_size plan)) (shared_word plan)) (item_of n (version_of number) i)) values) (sym k) heard)

  -- the block is decoded to the fields if there are enough bits
  pub fields_said : ((row : Row) → row ≡ row_with (checked_size plan) → IsRowOf (checked_size plan) row → resolvable row (sent_of row.k (version_of number) count) (shared_word plan) ≡ true) →
      BlockSays values (grant_of plan number) (Ok plan.sib1)
  fields_said enough =
      let of = row_is plan sendable in
      let row : Row = row_with (checked_size plan) in
      let decoded = heard_block_is_decoded row (version_of number) count (shared_word plan) values
      (record { is_row = inl of.is; version = version-fits number; size = word_size plan sendable ∙ sym of.size; passes = word_checked plan sendable; resolvable = enough row refl of })
      (matched_heard row refl of.size) in
      record {
        bits = message_of 24 (shared_word plan);
        is = record { row = row; is_row = of.is; size = of.size; decodes = decoded.decoded };
        says = word_says plan sendable;
      }
