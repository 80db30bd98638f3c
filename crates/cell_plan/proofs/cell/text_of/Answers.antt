use Rattle.std.proofs.Common.{◌≡◌, ◌≤◌, ◌<◌, ℕ, inl, inr, Bool, true, false, nat_le, List, [], length, Option, Some, if◌then◌else◌, ap, sym, subst, ◌∙◌, arith}
use Rattle.std.specs.Option.{option_map_or}
use Rattle.std.proofs.lemmas.Bool.{lt-leb, cases_lt}
use Rattle.lte_types.specs.declared.sib1.Sib1.{Sib1}
use Rattle.uper.specs.Texts.{IsText}
use Rattle.sib1.specs.Layout.{sib1}
use Rattle.sib1.specs.Text.{text_of}
use Rattle.sib1.proofs.Texts.{text_of_is}
use Rattle.cell_plan.proofs.cell.text_of.Goals as goal
use Rattle.cell_plan.proofs.cell.text_of.Goals.{else-write-via-then-write+else-bits-size, else-write-via-else-write}

-- a text that is longer does not fit
too_long : (text : List Bool) (fields : Sib1) (size : ℕ) → IsText sib1 text fields → size < length text → option_map_or (λ text. nat_le (length text) size) (text_of fields) false ≡ false
too_long text fields size is over =
    ap (λ (o : Option (List Bool)). option_map_or (λ text. nat_le (length text) size) o false) (text_of_is text fields is) ∙ lt-leb (length text) size over

past_the_room : (n size : ℕ) (did : Bool) → did ≡ false → (did ≡ true → n ≤ 1000) × (n ≤ 1000 → did ≡ true) → size ≤ 1000 → size < n
past_the_room n size did e room l = elim (cases_lt 1000 n) [
  | inl over ↦ omega (arith, over, l)
  | inr fits ↦ absurd (let t = room.1 fits in cc)
]

pub returns-then-bits-size : goal.returns-then-bits-size
returns-then-bits-size c =
    let w = c.write.ensures in
    let bits : c.write.new.out ≡ w.text = w.written ∙ ap (λ (did : Bool). if did then w.text else []) c.if-write.true in
    let fits : length c.bits.result.now ≤ c.args.size = c.if-bits-size.true in
    let same : c.bits.result.now ≡ c.write.new.out = c.bits.ensures.bits in
    (text_of_is w.text c.args.fields.now w.is_text ∙ ap (λ (bs : List Bool). Some bs) (sym bits), subst (λ (bs : List Bool). length bs ≤ c.args.size) same fits)

pub returns-else-write : goal.returns-else-write
returns-else-write c =
    let w = c.write.ensures in
    elim c.else-write.branch [
      | else-write-via-then-write+else-bits-size b ↦
          let bits : b.bits.result.now ≡ w.text = b.bits.ensures.bits ∙ w.written ∙ ap (λ (did : Bool). if did then w.text else []) b.if-write.true in
          let over = b.if-bits-size.false in
          let long : length b.bits.result.now ≡ length w.text = ap length bits in
          too_long w.text c.args.fields.now c.args.size w.is_text (omega (arith, over, long))
      | else-write-via-else-write b ↦
          too_long w.text c.args.fields.now c.args.size w.is_text
          (past_the_room (length w.text) c.args.size c.write.result b.if-write.false w.room c.requires.size)
    ]
