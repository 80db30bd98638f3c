-- Equality of complex integers as a Boolean test, for proofs by computation.
use Rattle.std.proofs.Common.{◌≡◌, Bool, true, int_eq}
use Rattle.std.proofs.lemmas.Bool.Decides.{Decides-int_eq}
use Rattle.std.specs.Prelude.{◌&&◌}
use Rattle.std.proofs.lemmas.Bool.{and_parts}
use Rattle.cs_num.specs.declared.Cpx.{Cpx}
use Rattle.cs_num.proofs.Complex.{pair}

abbrev pub is_same : Cpx → Cpx → Bool
is_same a b = int_eq a.re b.re && int_eq a.im b.im

pub is_same_tells : (a b : Cpx) → is_same a b ≡ true → a ≡ b
is_same_tells a b e =
    let parts = and_parts (int_eq a.re b.re) (int_eq a.im b.im) e in
    pair ((Decides-int_eq a.re b.re).0 parts.0) ((Decides-int_eq a.im b.im).0 parts.1)
