-- The front of a recording determines its cell list.
use Rattle.std.proofs.Common.{◌≡◌, ℕ, ◌<◌, ◌≤◌, ◌⊎◌, inl, inr, Result, Ok, Err, List, length, take, min, arith, sym, ap, subst, ◌∙◌}
use Rattle.std.specs.Prelude.{IfOk}
use Rattle.std.proofs.lemmas.Bool.{cases_lt}
use Rattle.std.proofs.lemmas.List.{take_all, take-take, take_min, length-take-le}
use Rattle.cs_num.specs.declared.Sample.{Sample}
use Rattle.explain.specs.Deciding.{deciding_length}
use Rattle.explain.proofs.Deciding.{first_frames_decide}
use Rattle.frequency_offset.specs.Estimation.{HasCells}

-- the samples computed for the front are the recording's front
pub front_made : {E : Type 0} (x : List Sample) (count most : ℕ) (made : Result (List Sample) E) → count ≡ min most (length x) → IfOk made (λ front. length front ≡ count) →
    IfOk made (λ front. take count front ≡ take count x) → IfOk made (λ front. front ≡ take most x)
front_made x count most (Ok front) few size same = sym (take_all count front (omega (arith, size))) ∙ same ∙ ap (λ n. take n x) few ∙ take_min most x
front_made x count most (Err e) few size same = tt

-- the front has as many cells as the complete recording
pub cells_of_front : (x front : List Sample) (count : ℕ) → front ≡ take deciding_length x → HasCells front count → HasCells x count
cells_of_front x front count is has = settle (cases_lt (length x) deciding_length)
  where
    cells : HasCells (take deciding_length x) count
    cells = subst (λ samples. HasCells samples count) is has

    settle : (length x < deciding_length) ⊎ (deciding_length ≤ length x) → HasCells x count
    settle (inl short) = subst (λ samples. HasCells samples count) (take_all deciding_length x (omega (arith, short))) cells
    settle (inr long) =
        let size : length (take deciding_length x) ≡ deciding_length = length-take-le deciding_length x long in
        record {
          list = cells.list;
          explained = first_frames_decide (take deciding_length x) x cells.list (omega (arith, size)) long (take-take deciding_length deciding_length x (omega arith)) cells.explained;
          many = cells.many;
        }
