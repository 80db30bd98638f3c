use Rattle.std.proofs.Common.{ℕ, ◌+◌, ◌-◌, ◌*◌, ◌/◌, ◌≤◌, subst, arith}
use Rattle.std.specs.Prelude.{List, ℤ}
use Rattle.std.proofs.lemmas.Result.{IfOk-weaker}
use Rattle.dci.specs.Format1A.{IsGrant}
use Rattle.grid_map.specs.Control.{element_count}
use Rattle.pdcch.proofs.Decoded.{some_decodes, none_decodes}
use Rattle.sib1_reader.specs.Control.{Grants}
use Rattle.sib1_reader.proofs.control.granted.Goals as goal

four_are_wide : (cfi taken : ℕ) → 4 ≤ (12 + 18 * cfi - 4 - taken) / 9 → 2 ≤ cfi
four_are_wide cfi taken many = omega (arith, many)

pub returns-in-Some-clause-answer : goal.returns-in-Some-clause-answer
returns-in-Some-clause-answer g c =
    let count = element_count c.args.cfi c.args.mib.duration c.args.mib.resource in
    let decoded = some_decodes g.S.ReadSlot.values_by (g.S.ReadSlot.seen_as c.args.first.now) c.args.cfi c.args.mib.duration c.args.mib.resource _ c.in-Some.ensures.values in
    subst (λ (values : List ℤ). Grants count values c.grant_of.result) decoded.is (c.grant_of.ensures.answer count decoded.many)

pub returns-in-Some-clause-wide : goal.returns-in-Some-clause-wide
returns-in-Some-clause-wide g c =
    let decoded = some_decodes g.S.ReadSlot.values_by (g.S.ReadSlot.seen_as c.args.first.now) c.args.cfi c.args.mib.duration c.args.mib.resource _ c.in-Some.ensures.values in
    IfOk-weaker c.grant_of.result IsGrant (λ grant. 2 ≤ c.args.cfi) (λ grant h. four_are_wide c.args.cfi _ decoded.many) c.grant_of.ensures.grant

pub returns-in-None-clause-answer : goal.returns-in-None-clause-answer
returns-in-None-clause-answer g c = record {
  reported_is = c.elements.ensures.value;
  few = none_decodes g.S.ReadSlot.values_by (g.S.ReadSlot.seen_as c.args.first.now) c.args.cfi c.args.mib.duration c.args.mib.resource c.in-None.ensures.values;
}
