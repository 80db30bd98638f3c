-- Laws of the sum modulo 2.
use Rattle.std.proofs.Common.{◌≡◌, Bool, true, false, refl, ap, sym, ◌∙◌}
use Rattle.finite.specs.Bits.{xor}

pub xor-false : (a : Bool) → xor a false ≡ a
xor-false true = refl
xor-false false = refl

pub false-xor : (a : Bool) → xor false a ≡ a
false-xor true = refl
false-xor false = refl

pub xor_assoc : (a b c : Bool) → xor (xor a b) c ≡ xor a (xor b c)
xor_assoc true true true = refl
xor_assoc true true false = refl
xor_assoc true false true = refl
xor_assoc true false false = refl
xor_assoc false true true = refl
xor_assoc false true false = refl
xor_assoc false false true = refl
xor_assoc false false false = refl

pub xor_comm : (a b : Bool) → xor a b ≡ xor b a
xor_comm true true = refl
xor_comm true false = refl
xor_comm false true = refl
xor_comm false false = refl

pub xor_left : (a b c : Bool) → xor a (xor b c) ≡ xor b (xor a c)
xor_left a b c = sym (xor_assoc a b c) ∙ ap (λ d. xor d c) (xor_comm a b) ∙ xor_assoc b a c

pub xor_self : (a : Bool) → xor a a ≡ false
xor_self true = refl
xor_self false = refl

pub xor_again : (a b : Bool) → xor a (xor a b) ≡ b
xor_again a b = sym (xor_assoc a a b) ∙ ap (λ c. xor c b) (xor_self a) ∙ false-xor b

-- the middle two of four bits can be exchanged
pub xor_swap : (a b c d : Bool) → xor (xor a b) (xor c d) ≡ xor (xor a c) (xor b d)
xor_swap a b c d = simp (xor_assoc, xor_comm, xor_left)
