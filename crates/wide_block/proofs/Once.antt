-- Sums and offers have exactly one answer, and fields that are decoded are in their ranges.
use Rattle.std.proofs.Common.{◌≡◌, ℕ, Bool, List, ℤ, Option, None, Some, Result, Ok, Err, refl, sym, ◌∙◌}
use Rattle.lte_types.specs.declared.sib1.Sib1.{Sib1}
use Rattle.lte_types.specs.declared.sib1_reason.Sib1Reason.{Sib1Reason}
use Rattle.lte_types.specs.declared.sib1_reason.Sib1Reason.TheVariants.{BlockTooLarge, NotDecoded}
use Rattle.lte_types.specs.Ranges.{IsValid}
use Rattle.turbo_code.specs.declared.rows.Row.{Row}
use Rattle.turbo_dec.specs.Block.{block}
use Rattle.sib1.proofs.Messages.{one_answer as one_message}
use Rattle.sib1.proofs.Exists.{some_answer as some_message}
use Rattle.sib1.proofs.Valid.{sib1_holds}
use Rattle.wide_block.specs.Sums.{row_for}
use Rattle.wide_block.specs.Block.{IsReadFrom, DecodesBy, SumsSay}
use Rattle.wide_block.specs.Laws.{IsOneAnswer, IsSomeAnswer, IsOneSaying, IsSomeSaying, IsReadValid}

-- ---- at most one

read_once : (found : Option (List Bool)) (a b : Result Sib1 Sib1Reason) → IsReadFrom found a → IsReadFrom found b → a ≡ b
read_once None a b s t = s ∙ sym t
read_once (Some bits) a b s t = one_message bits a b s t

decoded_once : (row : Option Row) (sums : List (List ℤ)) (a b : Result Sib1 Sib1Reason) → DecodesBy row sums a → DecodesBy row sums b → a ≡ b
decoded_once None sums a b s t = s ∙ sym t
decoded_once (Some row) sums a b s t = read_once (block row sums) a b s t

pub one_answer : IsOneAnswer
one_answer sums size a b s t = decoded_once (row_for size) sums a b s t

said_once : (sums : Option (List (List ℤ))) (size : ℕ) (a b : Result Sib1 Sib1Reason) → SumsSay sums size a → SumsSay sums size b → a ≡ b
said_once None size a b s t = s ∙ sym t
said_once (Some sums) size a b s t = one_answer sums size a b s t

pub one_saying : IsOneSaying
one_saying offer a b s t = said_once offer.sums offer.grant.size a b s t

-- ---- at least one

some_read : (found : Option (List Bool)) → (answer : Result Sib1 Sib1Reason) × IsReadFrom found answer
some_read None = (Err NotDecoded, refl)
some_read (Some bits) = some_message bits

some_decoded : (row : Option Row) (sums : List (List ℤ)) → (answer : Result Sib1 Sib1Reason) × DecodesBy row sums answer
some_decoded None sums = (Err BlockTooLarge, refl)
some_decoded (Some row) sums = some_read (block row sums)

pub some_answer : IsSomeAnswer
some_answer sums size = some_decoded (row_for size) sums

some_said : (sums : Option (List (List ℤ))) (size : ℕ) → (answer : Result Sib1 Sib1Reason) × SumsSay sums size answer
some_said None size = (Err BlockTooLarge, refl)
some_said (Some sums) size = some_answer sums size

pub some_saying : IsSomeSaying
some_saying offer = some_said offer.sums offer.grant.size

-- ---- fields

valid_by_block : (found : Option (List Bool)) (fields : Sib1) → IsReadFrom found (Ok fields) → IsValid fields
valid_by_block None fields s = absurd cc
valid_by_block (Some bits) fields s = sib1_holds s.text fields s.is_text

valid_by_row : (row : Option Row) (sums : List (List ℤ)) (fields : Sib1) → DecodesBy row sums (Ok fields) → IsValid fields
valid_by_row None sums fields s = absurd cc
valid_by_row (Some row) sums fields s = valid_by_block (block row sums) fields s

pub read_is_valid : IsReadValid
read_is_valid sums size fields s = valid_by_row (row_for size) sums fields s
