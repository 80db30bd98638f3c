-- The transport block that carried a cell's SIB1: the first that is read, and the only one.
use Rattle.std.proofs.Common.{◌≡◌, ℕ, ◌<◌, ◌≤◌, ◌⊎◌, inl, inr, Bool, List, [], Option, None, Some, Result, Ok, Err, refl, ap, sym, subst, ◌∙◌, arith}
use Rattle.std.specs.Option.{unwrap_or}
use Rattle.std.proofs.lemmas.Bool.{cases_lt}
use Rattle.cs_num.specs.declared.Sample.{Sample}
use Rattle.lte_types.specs.declared.mib.Mib.{Mib}
use Rattle.lte_types.specs.declared.sib1.Sib1.{Sib1}
use Rattle.lte_types.specs.declared.sib1_reason.Sib1Reason.{Sib1Reason}
use Rattle.lte_types.specs.CellPlace.{Place}
use Rattle.dci.specs.declared.grant.Grant.{Grant}
use Rattle.sib1_reader.specs.Subframe.{Subframe}
use Rattle.sib1_reader.specs.declared.reading.Attempt.{Attempt}
use Rattle.sib1_reader.specs.Attempt.{IsAttempt, IsBlockBy, IsAttemptBlock, Reads}
use Rattle.sib1_reader.specs.Block.{IsBlock}
use Rattle.sib1_reader.proofs.Once.{one_attempt, one_block}
use Rattle.explain.specs.Receiver.{Receiver, Subframes}
use Rattle.explain.specs.System.{even_frame, IsTried}
use Rattle.explain.specs.Blocks.{HasBlock, IsFirstBlock, IsBlockWith, IsDecodedWith, IsBlockFor}

-- ---- the block that is read

-- an attempt with fields has a transport block
has_block : (values : Subframe) (cfi : ℕ) (grant : Option Grant) (fields : Sib1) (bits : List Bool) →
    IsAttempt values (record { cfi = cfi; grant = grant; answer = Ok fields }) → IsBlockBy values cfi grant (Ok fields) bits → HasBlock values bits
has_block values cfi (Some grant) fields bits is block = record { cfi = cfi; grant = grant; fields = fields; attempt = is; block = block }
has_block values cfi None fields bits is block = absurd is.follows

-- an attempt without fields has no bits
no_bits : (values : Subframe) (cfi : ℕ) (grant : Option Grant) (reason : Sib1Reason) (bits : List Bool) → IsBlockBy values cfi grant (Err reason) bits → bits ≡ []
no_bits values cfi (Some grant) reason bits block = block
no_bits values cfi None reason bits block = block

module _ (values : ℕ → Subframe) (recording : List Sample) (start sfn : ℕ) where
  read_at : (i cfi : ℕ) (grant : Option Grant) (answer : Result Sib1 Sib1Reason) (bits : List Bool) → IsTried recording start sfn i →
      IsAttempt (values (even_frame sfn i)) (record { cfi = cfi; grant = grant; answer = answer }) → IsBlockBy (values (even_frame sfn i)) cfi grant answer bits →
      ((h : ℕ) (other : Sib1) → h < i → Reads (values (even_frame sfn h)) (Ok other) → ⊥) → IsDecodedWith answer (IsFirstBlock values recording start sfn) bits
  read_at i cfi grant (Ok fields) bits tried is block none = record {
    i = i;
    tried = tried;
    has = has_block (values (even_frame sfn i)) cfi grant fields bits is block;
    first = λ h less other reads. none h other less reads;
  }
  read_at i cfi grant (Err reason) bits tried is block none = no_bits (values (even_frame sfn i)) cfi grant reason bits block

  -- if no tried frame before number i has fields, the block of the attempt there is the first, or there are no bits
  pub first_block : (i : ℕ) (attempt : Attempt) (sib1 : Result Sib1 Sib1Reason) (kept bits : List Bool) → IsTried recording start sfn i →
      IsAttempt (values (even_frame sfn i)) attempt → IsAttemptBlock (values (even_frame sfn i)) attempt kept → sib1 ≡ attempt.answer → bits ≡ kept →
      ((h : ℕ) (other : Sib1) → h < i → Reads (values (even_frame sfn h)) (Ok other) → ⊥) → IsDecodedWith sib1 (IsFirstBlock values recording start sfn) bits
  first_block i attempt sib1 kept bits tried is block answers same none =
      subst (λ (answer : Result Sib1 Sib1Reason). IsDecodedWith answer (IsFirstBlock values recording start sfn) bits) (sym answers)
      (subst (λ xs. IsDecodedWith attempt.answer (IsFirstBlock values recording start sfn) xs) (sym same)
      (read_at i attempt.cfi attempt.grant attempt.answer kept tried is block none))

-- ---- one block

one_of_subframe : (values : Subframe) (a b : List Bool) → HasBlock values a → HasBlock values b → a ≡ b
one_of_subframe values a b p q =
    let same = one_attempt values (record { cfi = p.cfi; grant = Some p.grant; answer = Ok p.fields }) (record { cfi = q.cfi; grant = Some q.grant; answer = Ok q.fields }) p.attempt q.attempt in
    let cfi : p.cfi ≡ q.cfi = ap (λ (t : Attempt). t.cfi) same in
    let grant : p.grant ≡ q.grant = ap (λ (o : Option Grant). unwrap_or o p.grant) (ap (λ (t : Attempt). t.grant) same) in
    let block : IsBlock (values.shared q.cfi q.grant.start q.grant.blocks) q.grant (Some a) =
    subst (λ n. IsBlock (values.shared n q.grant.start q.grant.blocks) q.grant (Some a)) cfi
    (subst (λ (g : Grant). IsBlock (values.shared p.cfi g.start g.blocks) g (Some a)) grant p.block) in
    ap (λ (found : Option (List Bool)). unwrap_or found a) (one_block (values.shared q.cfi q.grant.start q.grant.blocks) q.grant (Some a) (Some b) block q.block)

reads_by : (values : Subframe) (bits : List Bool) (has : HasBlock values bits) → Reads values (Ok has.fields)
reads_by values bits has = record { attempt = record { cfi = has.cfi; grant = Some has.grant; answer = Ok has.fields }; is = has.attempt; answers = refl }

one_first : (values : ℕ → Subframe) (recording : List Sample) (start sfn : ℕ) (a b : List Bool) → IsFirstBlock values recording start sfn a → IsFirstBlock values recording start sfn b → a ≡ b
one_first values recording start sfn a b p q = by_order (cases_lt p.i q.i) (cases_lt q.i p.i)
  where
    by_order : (p.i < q.i) ⊎ (q.i ≤ p.i) → (q.i < p.i) ⊎ (p.i ≤ q.i) → a ≡ b
    by_order (inl before) other = absurd (q.first p.i before p.has.fields (reads_by (values (even_frame sfn p.i)) a p.has))
    by_order (inr low) (inl before) = absurd (p.first q.i before q.has.fields (reads_by (values (even_frame sfn q.i)) b q.has))
    by_order (inr low) (inr high) =
        let same : p.i ≡ q.i = omega (arith, low, high) in
        one_of_subframe (values (even_frame sfn q.i)) a b (subst (λ k. HasBlock (values (even_frame sfn k)) a) same p.has) q.has

one_with : (subframes : Result Subframes Sib1Reason) (recording : List Sample) (place : Place) (sfn : ℕ) (mib : Mib) (a b : List Bool) →
    IsBlockWith subframes recording place sfn mib a → IsBlockWith subframes recording place sfn mib b → a ≡ b
one_with (Ok values) recording place sfn mib a b p q = one_first (λ j. values recording place j mib.duration mib.resource) recording place.start sfn a b p q
one_with (Err reason) recording place sfn mib a b p q = p ∙ sym q

one_where_decoded : (sib1 : Result Sib1 Sib1Reason) (Is : List Bool → Type 0) (a b : List Bool) → (Is a → Is b → a ≡ b) → IsDecodedWith sib1 Is a → IsDecodedWith sib1 Is b → a ≡ b
one_where_decoded (Ok fields) Is a b once p q = once p q
one_where_decoded (Err reason) Is a b once p q = p ∙ sym q

-- a cell's SIB1 has one transport block, or none
pub one_block_for : (receiver : Receiver) (recording : List Sample) (place : Place) (sfn : ℕ) (mib : Mib) (sib1 : Result Sib1 Sib1Reason) (a b : List Bool) →
    IsBlockFor receiver recording place sfn mib sib1 a → IsBlockFor receiver recording place sfn mib sib1 b → a ≡ b
one_block_for receiver recording place sfn mib sib1 a b =
    one_where_decoded sib1 (IsBlockWith receiver.subframe recording place sfn mib) a b (one_with receiver.subframe recording place sfn mib a b)
