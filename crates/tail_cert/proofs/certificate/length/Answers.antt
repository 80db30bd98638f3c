use Rattle.std.proofs.Common.{refl, sym, ◌∙◌}
use Rattle.tail_cert.proofs.Codes.{length-bytes_of}
use Rattle.tail_cert.proofs.Shown.{as_many, stored_whole}
use Rattle.tail_cert.proofs.certificate.length.Goals as goal

pub returns-clause-count : goal.returns-clause-count
returns-clause-count c = rw (← c.certificate.view_is, as_many c.certificate.inside.set c.certificate.inside.tables.items) c.length_with.ensures

pub returns-clause-bytes : goal.returns-clause-bytes
returns-clause-bytes c = returns-clause-count c ∙ sym (length-bytes_of _ (rw (← c.certificate.view_is) (stored_whole _ _ _ c.certificate.invariant.0 refl)))
