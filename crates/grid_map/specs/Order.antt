-- Lists in increasing order.
use Rattle.std.specs.Prelude.{◌≡◌, ◌↔◌, ℕ, ◌<◌, Bool, IsTrue, Some, List, length, slice_get}
use Rattle.std.specs.List.{Contains}

-- `items` has `count` items in increasing order of `number`, so each item occurs once; item `i` is `at i`, and the
-- members are exactly the values that satisfy `is`
pub record AreInOrder {A : Type 0} (number : A → ℕ) (items : List A) (count : ℕ) (at : ℕ → A) (is : A → Bool) :
    Type 0 where
  pub size : length items ≡ count
  pub item : (i : ℕ) → i < count → slice_get items i ≡ Some (at i)
  pub rise : (i j : ℕ) → i < j → j < count → number (at i) < number (at j)
  pub members : (x : A) → Contains items x ↔ IsTrue (is x)
