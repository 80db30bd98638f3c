use Rattle.std.proofs.Common.{arith, sym, subst, List, Option}
use Rattle.std.specs.Prelude.{IfSome}
use Rattle.std.specs.List.{AllZip}
use Rattle.lte_types.specs.declared.entry.Entry.{Entry}
use Rattle.explain.specs.Entries.{IsExplained}
use Rattle.explain.specs.Readings.{IsReading}
use Rattle.successive_cancel.specs.declared.round.Round.{Round}
use Rattle.successive_cancel.proofs.Following.{round_found, next_round}
use Rattle.successive_cancel.proofs.making.+rounds_on.Goals as goal

pub rounds_on-requires : goal.rounds_on-requires
rounds_on-requires t c =
    let found = c.in-Some.round in
    let work = c.round_on.new.work in
    let round = round_found c.args.recording.now c.args.list.now found c.in_ok-round.field-0 c.in_ok-round.ensures.next c.in-Some.is in
    let read : AllZip (IsReading found.taken.residue) found.list work =
    subst (λ (o : Option Round). IfSome o (λ next. AllZip (IsReading next.taken.residue) next.list work)) c.in-Some.is c.in_ok-round.ensures.readings in
    let some = c.if-most-eq0.false in
    let less = c.decreases in (
      omega (arith, some, less),
      (
        round.taken.subtracted.after,
        (
          subst (λ (l : List Entry). IsExplained found.taken.residue l) (sym c.slice.ensures) round.listed.explained,
          subst (λ (l : List Entry). AllZip (IsReading found.taken.residue) l work) (sym c.slice.ensures) read,
        ),
      ),
    )

pub returns-in_ok-insert-in-Some : goal.returns-in_ok-insert-in-Some
returns-in_ok-insert-in-Some t c =
    let some = c.if-most-eq0.false in
    next_round c.args.most c.args.recording.now c.args.list.now c.in-Some.round c.in_ok-round.field-0 c.slice.result.now c.in_ok-rest-in-Some.rest.items c.insert.new.self.items c.in_ok-rest-in-Some.ended
    (omega (arith, some)) c.in_ok-round.ensures.next c.in-Some.is c.slice.ensures c.in_ok-rest-in-Some.ensures c.in_ok-insert-in-Some.ensures.items
