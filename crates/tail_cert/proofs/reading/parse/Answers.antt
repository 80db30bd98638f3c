use Rattle.std.proofs.Common.{refl, sym, subst, ◌∙◌}
use Rattle.tail_cert.specs.Form.{IsUnbrokenUpTo, count_of}
use Rattle.tail_cert.proofs.Breaks.{head_unbroken}
use Rattle.tail_cert.proofs.Codes.{same_certificate}
use Rattle.tail_cert.proofs.Whole.{whole_unbroken}
use Rattle.tail_cert.proofs.reading.parse.Goals as goal

pub get_all-requires-clause-unbroken : goal.get_all-requires-clause-unbroken
get_all-requires-clause-unbroken c = c.in-None.ensures.none refl

pub get_all-requires-clause-size : goal.get_all-requires-clause-size
get_all-requires-clause-size c = c.requires.fits (head_unbroken _ (c.in-None.ensures.none refl))

pub returns-in-None-clause-refused : goal.returns-in-None-clause-refused
returns-in-None-clause-refused c = λ place. ((λ e. cc), λ first. absurd (c.in-None.ensures.none refl place first.here))

pub returns-in-None-clause-same : goal.returns-in-None-clause-same
returns-in-None-clause-same c = λ d whole e. (refl, same_certificate _ d c.get_all.ensures.whole whole (sym c.get_all.ensures.bytes ∙ e))

pub returns-in-Some-clause-same : goal.returns-in-Some-clause-same
returns-in-Some-clause-same c = λ d whole e. absurd (subst (λ l. IsUnbrokenUpTo (count_of l) l) (sym e) (whole_unbroken d whole) _ c.in-Some.ensures.some.here)
