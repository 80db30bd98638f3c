-- A decoded block that carries fields: the fields are its sums' answer, and the block of sums is determined.
use Rattle.std.proofs.Common.{◌≡◌, ℕ, Bool, List, ℤ, Option, None, Some, option_and_then, Result, Ok, refl, subst}
use Rattle.lte_types.specs.declared.sib1.Sib1.{Sib1}
use Rattle.lte_types.specs.declared.sib1_reason.Sib1Reason.{Sib1Reason}
use Rattle.sib1.specs.Message.{Says}
use Rattle.turbo_code.specs.declared.rows.Row.{Row}
use Rattle.turbo_dec.specs.Block.{block}
use Rattle.wide_block.specs.Sums.{Offer, row_for}
use Rattle.wide_block.specs.Block.{IsReadFrom, DecodesBy, Decodes, SumsSay, OfferSays, CarriesFields, block_in, offer_block}

same_bits : (a b : List Bool) (found : Option (List Bool)) → found ≡ Some a → found ≡ Some b → a ≡ b
same_bits a b found e f = cc

-- what was decoded has at most one block
pub one_carried : (found : Option (List Bool)) (a b : List Bool) → CarriesFields found a → CarriesFields found b → a ≡ b
one_carried found a b x y = same_bits a b found x.is y.is

-- ---- from bits to fields

-- the fields that `bits` say are the answer of sums, if `bits` are the sums' block
pub record HasAnswer (Answers : Result Sib1 Sib1Reason → Type 0) (bits : List Bool) : Type 0 where
  pub fields : Sib1
  pub answers : Answers (Ok fields)
  pub says : Says bits (Ok fields)

found_says : (found : Option (List Bool)) (bits : List Bool) → CarriesFields found bits → HasAnswer (IsReadFrom found) bits
found_says None bits x = let no = x.is in absurd cc
found_says (Some other) bits x =
    record { fields = x.fields; answers = subst (λ b. Says b (Ok x.fields)) (same_bits bits other (Some other) x.is refl) x.says; says = x.says }

row_says : (row : Option Row) (sums : List (List ℤ)) (bits : List Bool) → CarriesFields (option_and_then (λ row. block row sums) row) bits →
    HasAnswer (DecodesBy row sums) bits
row_says None sums bits x = let no = x.is in absurd cc
row_says (Some row) sums bits x = found_says (block row sums) bits x

pub sums_say : (sums : List (List ℤ)) (size : ℕ) (bits : List Bool) → CarriesFields (block_in sums size) bits → HasAnswer (Decodes sums size) bits
sums_say sums size bits x = row_says (row_for size) sums bits x

any_say : (sums : Option (List (List ℤ))) (size : ℕ) (bits : List Bool) → CarriesFields (option_and_then (λ sums. block_in sums size) sums) bits →
    HasAnswer (SumsSay sums size) bits
any_say None size bits x = let no = x.is in absurd cc
any_say (Some sums) size bits x = sums_say sums size bits x

pub offer_says : (offer : Offer) (bits : List Bool) → CarriesFields (offer_block offer) bits → HasAnswer (OfferSays offer) bits
offer_says offer bits x = any_say offer.sums offer.grant.size bits x

-- ---- from fields to bits

-- the block that carries `fields`
abbrev pub HasBlock : Option (List Bool) → Sib1 → Type 0
HasBlock found fields = (bits : List Bool) × CarriesFields found bits × Says bits (Ok fields)

found_block : (found : Option (List Bool)) (fields : Sib1) → IsReadFrom found (Ok fields) → HasBlock found fields
found_block None fields says = absurd cc
found_block (Some bits) fields says = (bits, record { fields = fields; is = refl; says = says }, says)

row_block : (row : Option Row) (sums : List (List ℤ)) (fields : Sib1) → DecodesBy row sums (Ok fields) →
    HasBlock (option_and_then (λ row. block row sums) row) fields
row_block None sums fields says = absurd cc
row_block (Some row) sums fields says = found_block (block row sums) fields says

pub sums_block : (sums : List (List ℤ)) (size : ℕ) (fields : Sib1) → Decodes sums size (Ok fields) → HasBlock (block_in sums size) fields
sums_block sums size fields says = row_block (row_for size) sums fields says

any_block : (sums : Option (List (List ℤ))) (size : ℕ) (fields : Sib1) → SumsSay sums size (Ok fields) →
    HasBlock (option_and_then (λ sums. block_in sums size) sums) fields
any_block None size fields says = absurd cc
any_block (Some sums) size fields says = sums_block sums size fields says

pub block_of_offer : (offer : Offer) (fields : Sib1) → OfferSays offer (Ok fields) → HasBlock (offer_block offer) fields
block_of_offer offer fields says = any_block offer.sums offer.grant.size fields says
