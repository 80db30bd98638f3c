-- The values of a transmission and of its description.
use Rattle.std.proofs.Common.{◌≡◌, ℕ, ◌<◌, ℤ, pos, negsuc, Bool, true, false, nat_eq, List, length, ◌⊎◌, inl, inr, Option, is_some, if◌then◌else◌, nat_abs, Some, None, arith, refl, ap, ◌∙◌}
use Rattle.std.specs.Prelude.{codes, IsSome, slice_get}
use Rattle.std.proofs.lemmas.Option.{slice_get_within}
use Rattle.serde_json.specs.Data.{Data}
use Rattle.lte_types.specs.declared.sib1.Sib1.{Sib1}
use Rattle.dci.specs.Sizes.{size_of, column_2, column_3}
use Rattle.cell_plan.specs.declared.cell.CellPlan.{CellPlan}
use Rattle.cell_plan.specs.Plan.{IsSendable}
use Rattle.cell_json.specs.Kinds.{is_between}
use Rattle.cell_json.specs.Description.{in_field, number_at, sib1_at, plan_of}
use Rattle.cell_json.specs.Reading.{HasValues}

not_negative : (most : ℕ) (z : ℤ) → is_between (pos 0) (pos most) z ≡ true → pos (nat_abs z) ≡ z
not_negative most (pos n) e = refl
not_negative most (negsuc n) e = absurd (cc e)

-- a field below its maximum holds the number itself
kept : (most n : ℕ) (z : ℤ) → n ≡ in_field most z → n < most → pos n ≡ z
kept most n z e below = settle (is_between (pos 0) (pos most) z) refl e
  where
    settle : (b : Bool) → is_between (pos 0) (pos most) z ≡ b → n ≡ (if b then nat_abs z else most) → pos n ≡ z
    settle true is h = ap pos h ∙ not_negative most z is
    settle false is h = absurd (omega (arith, h, below))

some_place : (table : List ℕ) (n : ℕ) → IsSome (slice_get table n) → n < length table
some_place table n h = settle (slice_get table n) refl h
  where
    settle : (found : Option ℕ) → slice_get table n ≡ found → is_some found ≡ true → n < length table
    settle None is there = absurd (cc there)
    settle (Some x) is there = slice_get_within table n x is

few_schemes : (length column_2 ≡ 22) × (length column_3 ≡ 17)
unfolding column_2 column_3
few_schemes = (refl, refl)

-- a modulation and coding scheme with a block size is a small number
pub small_scheme : (mcs column : ℕ) → IsSome (size_of mcs column) → mcs < 255
small_scheme mcs column h = settle (nat_eq column 2) h
  where
    settle : (b : Bool) → IsSome (slice_get (if b then column_2 else column_3) mcs) → mcs < 255
    settle true h = let below = some_place column_2 mcs h in omega (arith, below, few_schemes.0)
    settle false h = let below = some_place column_3 mcs h in omega (arith, below, few_schemes.1)

pub small_column : (column : ℕ) → (column ≡ 2) ⊎ (column ≡ 3) → column < 255
small_column column (inl e) = omega (arith, e)
small_column column (inr e) = omega (arith, e)

-- a cell with the description's plan has its values
pub has_values : (plan : CellPlan) (sfn offset samples : ℕ) (json : Data) (sib1 : Sib1) → IsSendable plan → plan ≡ plan_of json sib1 → Some sib1 ≡ sib1_at json
    → pos sfn ≡ number_at (codes "sfn") json → pos offset ≡ number_at (codes "offset") json → pos samples ≡ number_at (codes "samples") json → HasValues plan sfn offset samples json
has_values plan sfn offset samples json sib1 sendable is there sfn_is offset_is samples_is = record {
  identity = kept 65535 plan.identity (number_at (codes "identity") json) (ap (λ p. p.identity) is) (omega (arith, sendable.identity));
  duration = ap (λ p. p.duration) is;
  resource = ap (λ p. p.resource) is;
  spare = kept 65535 plan.spare (number_at (codes "spare") json) (ap (λ p. p.spare) is) (omega (arith, sendable.spare));
  cfi = kept 255 plan.cfi (number_at (codes "cfi") json) (ap (λ p. p.cfi) is) (omega (arith, sendable.cfi.1));
  start = kept 255 plan.start (number_at (codes "start") json) (ap (λ p. p.start) is) (omega (arith, sendable.assignment.inside));
  blocks = kept 255 plan.blocks (number_at (codes "blocks") json) (ap (λ p. p.blocks) is) (omega (arith, sendable.assignment.inside));
  mcs = kept 255 plan.mcs (number_at (codes "mcs") json) (ap (λ p. p.mcs) is) (small_scheme plan.mcs plan.column sendable.mcs);
  column = kept 255 plan.column (number_at (codes "column") json) (ap (λ p. p.column) is) (small_column plan.column sendable.column);
  sib1 = ap (λ p. Some p.sib1) is ∙ there;
  number = sfn_is;
  first = offset_is;
  samples = samples_is;
}
