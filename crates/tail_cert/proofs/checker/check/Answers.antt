use Rattle.std.proofs.Common.{refl, sym, ◌∙◌}
use Rattle.tail_cert.proofs.Shown.{accepted_by, stored_whole}
use Rattle.tail_cert.proofs.Sound.{lower_bound}
use Rattle.tail_cert.proofs.checker.check.Goals as goal

pub returns-then-cost_of-certificate-clause-accepted : goal.returns-then-cost_of-certificate-clause-accepted
returns-then-cost_of-certificate-clause-accepted c = rw (← c.certificate.view_is)
    (accepted_by _ _ _ _ _ _ _ _ c.deref.ensures.value (sym c.if-cost_of-certificate.true ∙ c.cost_of.ensures) c.tables_hold.ensures)

pub returns-then-cost_of-certificate-clause-least : goal.returns-then-cost_of-certificate-clause-least
returns-then-cost_of-certificate-clause-least c = λ t.
    lower_bound _ (rw (← c.certificate.view_is) (stored_whole _ _ _ c.certificate.invariant.0 refl)) ((returns-then-cost_of-certificate-clause-accepted c).0 t)
