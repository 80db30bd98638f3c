use Rattle.std.proofs.Common.{◌∙◌, sym, refl}
use Rattle.uper.proofs.Steps.{read_within, read_out, read_cut}
use Rattle.uper.proofs.reader.Reader.number.Goals as goal

pub returns-then-is_within-clause-reads : goal.returns-then-is_within-clause-reads
returns-then-is_within-clause-reads c =
    let e = c.in-Some.ensures in
    read_within c.args.width c.args.least c.args.greatest c.in-Some.number c.args.self.now c.take.new.self (λ h. let wrong = e.left.1 h in absurd cc) e.value e.bits e.place (sym c.is_within.ensures ∙ c.if-is_within.true)

pub returns-else-is_within-clause-reads : goal.returns-else-is_within-clause-reads
returns-else-is_within-clause-reads c =
    read_out c.args.width c.args.least c.args.greatest c.in-Some.number c.args.self.now c.place-place.result c.in-Some.ensures.value c.place-place.ensures.place (sym c.is_within.ensures ∙ c.if-is_within.false)

pub returns-in-None-clause-reads : goal.returns-in-None-clause-reads
returns-in-None-clause-reads c =
    read_cut c.args.width c.args.least c.args.greatest c.args.self.now c.place-place.result (c.in-None.ensures.left.0 refl) c.place-place.ensures.place
