-- Bits decode to one result, which is determined field by field.
use Rattle.std.proofs.Common.{◌≡◌, ℕ, ◌+◌, ◌<◌, ◌≤◌, Bool, true, false, List, Option, None, Some, Result, Ok, Err, refl, ap, ap₂, sym, ◌∙◌, arith}
use Rattle.std.specs.Prelude.{unwrap_or, nat_lt, if◌then◌else◌}
use Rattle.std.proofs.lemmas.Bool.{lt-ltb, le-ltb}
use Rattle.std.proofs.lemmas.Bool.Decides.{nat_tests}
use Rattle.lte_types.specs.declared.sib1_reason.Sib1Reason.{Sib1Reason}
use Rattle.lte_types.specs.declared.sib1_reason.Sib1Reason.TheVariants.{NotFormat1A, Distributed, BadRiv, ReservedMcs, BlockTooLarge}
use Rattle.dci.specs.declared.grant.Grant.{Grant}
use Rattle.dci.specs.Fields.{is_1a, is_distributed, assignment, mcs, rv, tpc_low}
use Rattle.lte_types.specs.Assignment.{AreBlocks}
use Rattle.dci.specs.Assignment.{riv_of}
use Rattle.dci.specs.Sizes.{size_of}
use Rattle.dci.specs.Format1A.{Says, Carries, column_of}

-- ---- one grant

same_start : (start blocks other others : ℕ) → AreBlocks start blocks → AreBlocks other others → riv_of start blocks ≡ riv_of other others → start ≡ other
same_start start blocks other others a b e = let p = a.some in let q = a.inside in let r = b.some in let s = b.inside in grind (arith, nat_tests)

same_count : (start blocks other others : ℕ) → AreBlocks start blocks → AreBlocks other others → riv_of start blocks ≡ riv_of other others → blocks ≡ others
same_count start blocks other others a b e = let p = a.some in let q = a.inside in let r = b.some in let s = b.inside in grind (arith, nat_tests)

same_fields : (a b : Grant) → a.start ≡ b.start → a.blocks ≡ b.blocks → a.mcs ≡ b.mcs → a.column ≡ b.column → a.rv ≡ b.rv → a.size ≡ b.size → a ≡ b
same_fields a b start blocks mcs column rv size =
    ap (λ x. record a { start = x }) start
    ∙ ap (λ x. record a { start = b.start; blocks = x }) blocks
    ∙ ap (λ x. record a { start = b.start; blocks = b.blocks; mcs = x }) mcs
    ∙ ap (λ x. record a { start = b.start; blocks = b.blocks; mcs = b.mcs; column = x }) column
    ∙ ap (λ x. record a { start = b.start; blocks = b.blocks; mcs = b.mcs; column = b.column; rv = x }) rv
    ∙ ap (λ x. record b { size = x }) size

one_grant : (bits : List Bool) (a b : Grant) → Carries bits a → Carries bits b → a ≡ b
one_grant bits a b s t =
    let reported = sym s.assigned ∙ t.assigned in
    let mcs = sym s.mcs_is ∙ t.mcs_is in
    let column = s.column_is ∙ sym t.column_is in
    let bounded : Some a.size ≡ Some b.size = sym s.size_is ∙ ap₂ size_of mcs column ∙ t.size_is in
    same_fields a b
    (same_start a.start a.blocks b.start b.blocks s.blocks t.blocks reported)
    (same_count a.start a.blocks b.start b.blocks s.blocks t.blocks reported)
    mcs column (sym s.rv_is ∙ t.rv_is) (ap (λ o. unwrap_or o 0) bounded)

-- ---- one reason

-- the reason, field by field; None if there is none
no_size : Option ℕ → Option Sib1Reason
no_size None = Some BlockTooLarge
no_size (Some size) = None

reason : List Bool → Option Sib1Reason
reason bits =
    if is_1a bits then (if is_distributed bits then Some Distributed
    else (if nat_lt 20 (assignment bits) then Some (BadRiv (assignment bits))
    else (if nat_lt 26 (mcs bits) then Some (ReservedMcs (mcs bits)) else no_size (size_of (mcs bits) (column_of (tpc_low bits))))))
    else Some NotFormat1A

-- the reason that an answer gives
given : Result Grant Sib1Reason → Option Sib1Reason
given (Ok grant) = None
given (Err reason) = Some reason

riv_low : (start blocks : ℕ) → AreBlocks start blocks → riv_of start blocks ≤ 20
riv_low start blocks a = let p = a.some in let q = a.inside in grind (arith, nat_tests)

reason_is : (bits : List Bool) (answer : Result Grant Sib1Reason) → Says bits answer → given answer ≡ reason bits
unfolding reason given no_size
reason_is bits (Ok grant) s =
    let low = riv_low grant.start grant.blocks s.blocks in
    let reported = s.assigned in
    let valid = s.mcs_valid in
    let scheme = s.mcs_is in
    let bounded = ap₂ size_of scheme (sym s.column_is) ∙ s.size_is in
    sym (rw (s.format, s.localised, le-ltb 20 (assignment bits) (omega (arith, low, reported)), le-ltb 26 (mcs bits) (omega (arith, valid, scheme)), bounded) refl)
reason_is bits (Err NotFormat1A) s = sym (rw s.format refl)
reason_is bits (Err Distributed) s = sym (rw (s.format, s.distributed) refl)
reason_is bits (Err (BadRiv reported)) s = ap (λ t. Some (BadRiv t)) s.value ∙ sym (rw (s.format, s.localised, lt-ltb 20 (assignment bits) (let a = s.above in let v = s.value in omega (arith, a, v))) refl)
reason_is bits (Err (ReservedMcs reported)) s =
    ap (λ t. Some (ReservedMcs t)) s.value
    ∙ sym (rw (s.format, s.localised, le-ltb 20 (assignment bits) s.assigned, lt-ltb 26 (mcs bits) (let a = s.above in let v = s.value in omega (arith, a, v))) refl)
reason_is bits (Err BlockTooLarge) s =
    sym (rw (s.format, s.localised, le-ltb 20 (assignment bits) s.assigned, le-ltb 26 (mcs bits) s.mcs_valid, s.none) refl)
reason_is bits (Err _) s = absurd s

one_of_both : (bits : List Bool) (a b : Result Grant Sib1Reason) → Says bits a → Says bits b → given a ≡ given b → a ≡ b
unfolding given
one_of_both bits (Ok g) (Ok h) s t e = ap (λ (x : Grant). Ok x) (one_grant bits g h s t)
one_of_both bits (Ok g) (Err r) s t e = absurd cc
one_of_both bits (Err q) (Ok h) s t e = absurd cc
one_of_both bits (Err q) (Err r) s t e = ap (λ o. Err (unwrap_or o q)) e

pub one_answer : (bits : List Bool) (a b : Result Grant Sib1Reason) → Says bits a → Says bits b → a ≡ b
one_answer bits a b s t = one_of_both bits a b s t (reason_is bits a s ∙ sym (reason_is bits b t))
