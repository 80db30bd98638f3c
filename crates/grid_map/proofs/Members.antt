-- List membership, from a test of equality.
use Rattle.std.proofs.Common.{◌≡◌, ◌↔◌, Bool, true, List, ap, sym, ◌∙◌}
use Rattle.std.specs.List.{Contains, list_any}
use Rattle.std.proofs.lemmas.List.Folds.{list_any_at}
use Rattle.std.proofs.lemmas.Map.Views.{Contains-from_any}

-- an equality test finds exactly the members
pub members_by : {A : Type 0} (same : A → A → Bool) → ((x y : A) → same x y ≡ true → x ≡ y) → ((x : A) → same x x ≡ true) →
    (items : List A) (is : A → Bool) → ((x : A) → list_any (same x) items ≡ is x) → (x : A) → Contains items x ↔ (is x ≡ true)
members_by same sound itself items is decoded x = (
  λ (k, inside, here). sym (decoded x) ∙ list_any_at (same x) items k x inside (ap (same x) here ∙ itself x),
  λ yes. Contains-from_any sound x items (decoded x ∙ yes),
)
