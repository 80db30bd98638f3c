use Rattle.std.proofs.Common.{rules, ◌≡◌, List, ℤ, to_z, of_z, w64, FitsSigned, subst, sym}
use Rattle.std.proofs.lemmas.Int.{to_z-of_z}
use Rattle.evidence.specs.Evidence.{HasRoom}
use Rattle.evidence.proofs.measured.measured_and_slot.Goals as goal

kept : (read sums : List (List ℤ)) (room : ℤ) → FitsSigned w64 room → read ≡ sums → HasRoom read room → HasRoom sums (to_z w64 (of_z w64 room))
kept read sums room fits same is = subst (λ (z : ℤ). HasRoom sums z) (sym (to_z-of_z w64 room fits)) (subst (λ (s : List (List ℤ)). HasRoom s room) same is)

pub returns-clause-measured : goal.returns-clause-measured
returns-clause-measured g c =
    let fits : FitsSigned w64 c.room_of-room.result = search rules in
    record {
      numbers = c.numbers_and_slot-numbers.ensures.evidence;
      room = kept _ _ _ fits c.requires.1.1.sums c.room_of-room.ensures;
    }
