-- The steps of a plan's acceptance taken together.
use Rattle.std.proofs.Common.{◌≡◌, ◌⊎◌, ℕ, ◌+◌, ◌≤◌, Bool, true, false, ◌&&◌, ◌||◌, nat_eq, nat_le, List, [], length, Option, Some, None, if◌then◌else◌, refl, ap, sym, subst, ◌∙◌, arith}
use Rattle.std.specs.Prelude.{not, is_some, is_none, IsSome, IsSomeAnd}
use Rattle.std.specs.Option.{unwrap_or}
use Rattle.std.specs.Cmp.{unsigned_Decides}
use Rattle.std.proofs.lemmas.Bool.{and_from}
use Rattle.std.proofs.lemmas.Bool.Decides.{Decides-or}
use Rattle.lte_types.specs.declared.carrier.Carrier.{Carrier}
use Rattle.lte_types.specs.Ranges.{IsValid}
use Rattle.turbo_code.specs.Table.{IsSize}
use Rattle.turbo_code.specs.Encoder.{coded}
use Rattle.turbo_code.specs.declared.encoder.Coded.{Coded}
use Rattle.cs_bits.specs.Checks.{with_check_24}
use Rattle.dci.specs.Sizes.{size_of}
use Rattle.sib1.specs.Text.{text_of}
use Rattle.cell_plan.specs.declared.cell.CellPlan.{CellPlan}
use Rattle.cell_plan.specs.Transport.{block_size, text_fits, filled, row_with, shared_word, has_block, is_whole, is_whole_of, is_resolvable}
use Rattle.cell_plan.specs.Plan.{needs_each_bit, IsSendableWith, IsSendableBy, is_enough, refusal_of}
use Rattle.cell_plan.specs.declared.error.CellError.{CellError}
use Rattle.cell_plan.specs.declared.error.CellError.TheVariants.{Sib1Long}
use Rattle.cell_plan.specs.Transport.{shared_coded, IsCoded}
use Rattle.cell_plan.proofs.Sendable.{assigned, pass}
use Rattle.cell_plan.proofs.WholeBlocks.{enough_is_resolvable}

-- ---- a size of the table

pub record HasSize (plan : CellPlan) (size : ℕ) : Type 0 where
  pub column : (plan.column ≡ 2) ⊎ (plan.column ≡ 3)
  pub entry : size_of plan.mcs plan.column ≡ Some size
  pub is : block_size plan ≡ size

none_is_some : {A : Type 0} (x : A) (o : Option A) → o ≡ Some x → o ≡ None → ⊥
none_is_some x o e f = absurd cc

pub has_size : (plan : CellPlan) (size : ℕ) (o : Option ℕ) → o ≡ Some size → o ≡ (if nat_eq plan.column 2 || nat_eq plan.column 3 then size_of plan.mcs plan.column else None) → HasSize plan size
has_size plan size o e f = by (nat_eq plan.column 2 || nat_eq plan.column 3) refl
  where
    by : (b : Bool) → (nat_eq plan.column 2 || nat_eq plan.column 3) ≡ b → HasSize plan size
    by true t =
        let entry : size_of plan.mcs plan.column ≡ Some size = sym (f ∙ ap (λ (b : Bool). if b then size_of plan.mcs plan.column else None) t) ∙ e in
        record {
          column = (Decides-or _ _ (unsigned_Decides plan.column 2) (unsigned_Decides plan.column 3)).0 t;
          entry = entry;
          is = ap (λ o. unwrap_or o 0) entry;
        }
    by false t = absurd (none_is_some size o e (f ∙ ap (λ (b : Bool). if b then size_of plan.mcs plan.column else None) t))

-- ---- the plan

pub record IsAccepted (carrier : Carrier) (plan : CellPlan) (size : ℕ) (text : List Bool) : Type 0 where
  pub valid : IsValid plan.sib1
  pub identity : plan.identity ≤ 503
  pub spare : plan.spare ≤ 1023
  pub low : 2 ≤ plan.cfi
  pub high : plan.cfi ≤ 3
  pub blocks : (nat_le 1 plan.blocks && nat_le (plan.start + plan.blocks) 6) ≡ true
  pub sized : HasSize plan size
  pub enough : is_enough carrier plan ≡ true
  pub duplex : is_some plan.sib1.tdd ≡ false
  pub extension : plan.sib1.extended ≡ false
  pub text_is : text_of plan.sib1 ≡ Some text
  pub fits : length text ≤ size

no_value : {A : Type 0} (o : Option A) → is_some o ≡ false → o ≡ None
no_value None e = refl
no_value (Some x) e = absurd cc

there : {A : Type 0} (o : Option A) (x : A) → o ≡ Some x → IsSome o
there o x e = subst (λ p. IsSome p) (sym e) cc

there_and : {A : Type 0} (P : A → Type 0) (o : Option A) (x : A) → o ≡ Some x → P x → IsSomeAnd o P
there_and P o x e p = subst (λ q. IsSomeAnd q P) (sym e) p

accepted_with : (carrier : Carrier) (plan : CellPlan) (size : ℕ) (text : List Bool) → IsAccepted carrier plan size text → (Enough : Type 0) → Enough → IsSendableWith Enough plan
accepted_with carrier plan size text a Enough enough =
    let blocks = (assigned plan).0 a.blocks in
    let is : block_size plan ≡ size = a.sized.is in
    let fits = a.fits in
    record {
      valid = a.valid;
      identity = a.identity;
      spare = a.spare;
      cfi = (a.low, a.high);
      assignment = record { some = blocks.0; inside = blocks.1 };
      column = a.sized.column;
      mcs = there (size_of plan.mcs plan.column) size a.sized.entry;
      enough = enough;
      duplex = no_value plan.sib1.tdd a.duplex;
      extension = a.extension;
      text = there_and (λ text. length text ≤ block_size plan) (text_of plan.sib1) text a.text_is (omega (arith, is, fits));
    }

pub accepted_can_be_sent : (carrier : Carrier) (plan : CellPlan) (size : ℕ) (text : List Bool) → IsAccepted carrier plan size text → IsSendableBy carrier plan
accepted_can_be_sent carrier plan size text a = accepted_with carrier plan size text a _ (by (needs_each_bit carrier) a.enough)
  where
    by : (each : Bool) → (if each then is_whole_of carrier plan else (is_whole plan || (has_block plan && is_resolvable plan))) ≡ true
        → (if each then is_whole_of carrier plan else is_resolvable plan) ≡ true
    by true e = e
    by false e = enough_is_resolvable plan (there (size_of plan.mcs plan.column) size a.sized.entry) e

-- ---- a plan of which only the text does not fit

pub sized_is : (plan : CellPlan) (size : ℕ) → HasSize plan size → ((nat_eq plan.column 2 || nat_eq plan.column 3) && is_some (size_of plan.mcs plan.column)) ≡ true
sized_is plan size of =
    and_from _ _ ((Decides-or _ _ (unsigned_Decides plan.column 2) (unsigned_Decides plan.column 3)).1 of.column) (ap (λ (o : Option ℕ). is_some o) of.entry)

fails : (cause : CellError) (rest : Option CellError) (holds : Bool) → holds ≡ false → (if holds then rest else Some cause) ≡ Some cause
fails cause rest true e = absurd cc
fails cause rest false e = refl

pub refused_text : (carrier : Carrier) (plan : CellPlan) → nat_le plan.identity 503 ≡ true → nat_le plan.spare 1023 ≡ true → (nat_le 2 plan.cfi && nat_le plan.cfi 3) ≡ true
    → (nat_le 1 plan.blocks && nat_le (plan.start + plan.blocks) 6) ≡ true → ((nat_eq plan.column 2 || nat_eq plan.column 3) && is_some (size_of plan.mcs plan.column)) ≡ true
    → is_enough carrier plan ≡ true → is_none plan.sib1.tdd ≡ true → not plan.sib1.extended ≡ true → text_fits plan ≡ false → refusal_of carrier plan ≡ Some Sib1Long
refused_text carrier plan a b c d e f g h i =
    pass (nat_le plan.identity 503) _ _ a
    (pass (nat_le plan.spare 1023) _ _ b
    (pass (nat_le 2 plan.cfi && nat_le plan.cfi 3) _ _ c
    (pass (nat_le 1 plan.blocks && nat_le (plan.start + plan.blocks) 6) _ _ d
    (pass ((nat_eq plan.column 2 || nat_eq plan.column 3) && is_some (size_of plan.mcs plan.column)) _ _ e
    (pass (is_enough carrier plan) _ _ f
    (pass (is_none plan.sib1.tdd) _ _ g
    (pass (not plan.sib1.extended) _ _ h (fails Sib1Long None (text_fits plan) i))))))))

-- ---- the encoded block

pub accepted_is_coded : (carrier : Carrier) (plan : CellPlan) (size : ℕ) (text : List Bool) (word : Coded) → IsAccepted carrier plan size text → IsSize (size + 24) → word.k ≡ size + 24
    → word.d ≡ coded (row_with (size + 24)) (with_check_24 (filled size text)) → IsCoded plan word
unfolding shared_coded shared_word
accepted_is_coded carrier plan size text word a row k d =
    let is : size ≡ block_size plan = sym a.sized.is in
    record {
      size = subst IsSize (sym k) row;
      k = k ∙ ap (λ (n : ℕ). n + 24) is;
      d = d
          ∙ ap (λ (n : ℕ). coded (row_with (n + 24)) (with_check_24 (filled n text))) is
          ∙ ap (λ (o : Option (List Bool)). coded (row_with (block_size plan + 24)) (with_check_24 (filled (block_size plan) (unwrap_or o [])))) (sym a.text_is);
    }
