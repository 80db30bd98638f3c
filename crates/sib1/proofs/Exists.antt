-- Any bits can be decoded: they begin with an encoding of the fields, or are refused.
use Rattle.std.proofs.Common.{◌≡◌, ℕ, Bool, true, false, List, [], ◌∷◌, Result, Ok, Err, refl}
use Rattle.lte_types.specs.declared.sib1.Sib1.{Sib1}
use Rattle.lte_types.specs.declared.sib1_reason.Sib1Reason.{Sib1Reason}
use Rattle.lte_types.specs.declared.sib1_reason.Sib1Reason.TheVariants.{NotSib1, BadFields}
use Rattle.uper.specs.Cursor.{Cursor}
use Rattle.uper.specs.Reading.{reading}
use Rattle.uper.proofs.Fronts.{begins_with, refuses_at}
use Rattle.sib1.specs.Layout.{sib1}
use Rattle.sib1.specs.Message.{IsSib1, Says}

abbrev Answer : List Bool → Type 0
Answer bits = (answer : Result Sib1 Sib1Reason) × Says bits answer

of_reading : (bits : List Bool) (at : Cursor) → at.bits ≡ bits → at.place ≡ 0 → IsSib1 bits → (r : Result (Sib1 × Cursor) ℕ) → reading sib1 at ≡ r → Answer bits
of_reading bits at e f is (Ok (fields, new)) read = (Ok fields, begins_with sib1 bits at new fields e f read)
of_reading bits at e f is (Err place) read = (Err (BadFields place), (is, refuses_at sib1 bits at place e f read))

of_sib1 : (bits : List Bool) → IsSib1 bits → Answer bits
of_sib1 bits is = let at : Cursor = record { bits = bits; place = 0 } in of_reading bits at refl refl is (reading sib1 at) refl

other : (bits : List Bool) → (IsSib1 bits → ⊥) → Answer bits
other bits not = (Err NotSib1, not)

pub some_answer : (bits : List Bool) → Answer bits
some_answer [] = other [] (λ is. let e = is.begins in absurd cc)
some_answer (true ∷ bits) = other (true ∷ bits) (λ is. let e = is.begins in absurd cc)
some_answer (false ∷ []) = other (false ∷ []) (λ is. let e = is.begins in absurd cc)
some_answer (false ∷ false ∷ bits) = other (false ∷ false ∷ bits) (λ is. let e = is.begins in absurd cc)
some_answer (false ∷ true ∷ bits) = of_sib1 (false ∷ true ∷ bits) (record { rest = bits; begins = refl })
