-- Any bits can be decoded: they carry a grant, or are refused.
use Rattle.std.proofs.Common.{◌≡◌, ℕ, ◌<◌, ◌≤◌, ◌⊎◌, inl, inr, Bool, true, false, List, Option, None, Some, Result, Ok, Err, refl, sym, arith}
use Rattle.std.proofs.lemmas.Bool.{cases_lt}
use Rattle.lte_types.specs.declared.sib1_reason.Sib1Reason.{Sib1Reason}
use Rattle.lte_types.specs.declared.sib1_reason.Sib1Reason.TheVariants.{NotFormat1A, Distributed, BadRiv, ReservedMcs, BlockTooLarge}
use Rattle.dci.specs.declared.grant.Grant.{Grant}
use Rattle.dci.specs.Fields.{is_1a, is_distributed, assignment, mcs, rv, tpc_low}
use Rattle.dci.specs.Sizes.{size_of}
use Rattle.dci.specs.Format1A.{Says, column_of}
use Rattle.dci.proofs.Blocks.{blocks_with}

abbrev Answer : List Bool → Type 0
Answer bits = (answer : Result Grant Sib1Reason) × Says bits answer

by_magnitude : (bits : List Bool) → is_1a bits ≡ true → is_distributed bits ≡ false → assignment bits ≤ 20 → mcs bits ≤ 26 →
    (size : Option ℕ) → size_of (mcs bits) (column_of (tpc_low bits)) ≡ size → Answer bits
by_magnitude bits format localised assigned valid None e = (Err BlockTooLarge, record { format = format; localised = localised; assigned = assigned; mcs_valid = valid; none = e })
by_magnitude bits format localised assigned valid (Some size) e =
    let (start, found) = blocks_with (assignment bits) assigned in
    let (blocks, are, reported) = found in
    let grant : Grant = record { start = start; blocks = blocks; mcs = mcs bits; column = column_of (tpc_low bits); rv = rv bits; size = size } in (
      Ok grant,
      record {
        format = format;
        localised = localised;
        blocks = are;
        assigned = sym reported;
        mcs_is = refl;
        mcs_valid = valid;
        rv_is = refl;
        column_is = refl;
        size_is = e;
      },
    )

localised_answer : (bits : List Bool) → is_1a bits ≡ true → is_distributed bits ≡ false → Answer bits
localised_answer bits format localised = elim (cases_lt 20 (assignment bits)) [
  | inl above ↦ (Err (BadRiv (assignment bits)), record { format = format; localised = localised; value = refl; above = above })
  | inr assigned ↦ elim (cases_lt 26 (mcs bits)) [
    | inl above ↦ (Err (ReservedMcs (mcs bits)), record { format = format; localised = localised; assigned = assigned; value = refl; above = above })
    | inr valid ↦ by_magnitude bits format localised assigned valid (size_of (mcs bits) (column_of (tpc_low bits))) refl
  ]
]

by_form : (bits : List Bool) → is_1a bits ≡ true → (distributed : Bool) → is_distributed bits ≡ distributed → Answer bits
by_form bits format true e = (Err Distributed, record { format = format; distributed = e })
by_form bits format false e = localised_answer bits format e

by_format : (bits : List Bool) (format : Bool) → is_1a bits ≡ format → Answer bits
by_format bits false e = (Err NotFormat1A, record { format = e })
by_format bits true e = by_form bits e (is_distributed bits) refl

pub some_answer : (bits : List Bool) → Answer bits
some_answer bits = by_format bits (is_1a bits) refl
