use Rattle.std.proofs.Common.{◌≡◌, ℕ, ◌+◌, ◌*◌, ◌≤◌, Bool, true, false, not, ◌&&◌, nat_le, List, [], length, Option, Some, None, refl, ap, sym, ◌∙◌}
use Rattle.std.specs.Prelude.{is_some, is_none}
use Rattle.std.specs.Option.{unwrap_or, option_map_or}
use Rattle.std.proofs.lemmas.Bool.{le-leb, and_from}
use Rattle.cs_bits.specs.Checks.{with_check_24}
use Rattle.sib1.specs.Text.{text_of}
use Rattle.cell_plan.specs.declared.cell.CellPlan.{CellPlan}
use Rattle.cell_plan.specs.Transport.{block_size, assigned_bits, shared_word, filled, has_block, text_fits, is_resolvable_by, is_resolvable}
use Rattle.cell_plan.proofs.cell.has_resolvable_block.Goals as goal

none_there : {A : Type 0} (o : Option A) → is_some o ≡ false → is_none o ≡ true
none_there None e = refl
none_there (Some x) e = absurd cc

-- a plan whose text fits has a block, and its text is this one
module _ (plan : CellPlan) (size : ℕ) (text : List Bool) (tdd : is_some plan.sib1.tdd ≡ false) (plain : plan.sib1.extended ≡ false)
    (is_size : block_size plan ≡ size) (is_text : text_of plan.sib1 ≡ Some text) (fits : length text ≤ size) where
  pub has : has_block plan ≡ true
  has = and_from _ (text_fits plan) (and_from (is_none plan.sib1.tdd) (not plan.sib1.extended) (none_there plan.sib1.tdd tdd) (ap not plain)) enough
    where
      enough : text_fits plan ≡ true
      enough =
          ap (λ (o : Option (List Bool)). option_map_or (λ text. nat_le (length text) (block_size plan)) o false) is_text
          ∙ ap (λ (n : ℕ). nat_le (length text) n) is_size ∙ le-leb (length text) size fits

  word : with_check_24 (filled size text) ≡ shared_word plan
  unfolding shared_word
  word =
      ap (λ (n : ℕ). with_check_24 (filled n text)) (sym is_size)
      ∙ ap (λ (o : Option (List Bool)). with_check_24 (filled (block_size plan) (unwrap_or o []))) (sym is_text)

  pub decodes : (count : ℕ) → count ≡ assigned_bits plan → is_resolvable_by (size + 24) count (with_check_24 (filled size text)) ≡ (has_block plan && is_resolvable plan)
  decodes count is_count =
      ap (λ (n : ℕ). is_resolvable_by (n + 24) count (with_check_24 (filled size text))) (sym is_size)
      ∙ ap (λ (m : ℕ). is_resolvable_by (block_size plan + 24) m (with_check_24 (filled size text))) is_count
      ∙ ap (λ (w : List Bool). is_resolvable_by (block_size plan + 24) (assigned_bits plan) w) word
      ∙ sym (ap (λ (b : Bool). b && is_resolvable plan) has)

pub returns-in-Some : goal.returns-in-Some
returns-in-Some c =
    c.block_fills.ensures
    ∙ ap (λ (text : List Bool). is_resolvable_by (c.args.size + 24) (2 * c.assigned_places.result) (with_check_24 (filled c.args.size text))) c.bits.ensures.bits
    ∙ decodes c.args.plan.now c.args.size c.in-Some.text (sym c.if-is_some.ensures) c.if-plan.false c.requires.size c.in-Some.ensures.0 c.in-Some.ensures.1 (2 * c.assigned_places.result) (ap (λ (n : ℕ). 2 * n) c.assigned_places.ensures.value)
