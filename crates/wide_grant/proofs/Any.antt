-- Whether a number of a range passes a test.
use Rattle.std.proofs.Common.{ℕ, ◌+◌, ◌-◌, ◌<◌, ◌≤◌, ◌≡◌, Bool, true, false, ap, ◌∙◌, subst, arith}
use Rattle.std.specs.List.{list_any, range_with_len}
use Rattle.std.proofs.lemmas.List.Folds.{list_any_none, list_any_at}
use Rattle.std.proofs.lemmas.List.FromFn.{length-range_with_len, get_or-range_with_len}

pub none_passes : (p : ℕ → Bool) (a n : ℕ) → ((k : ℕ) → a ≤ k → k < a + n → p k ≡ false) → list_any p (range_with_len a n) ≡ false
none_passes p a n h =
    list_any_none p (range_with_len a n)
    (λ j d l.
    let inside : j < n = subst (λ size. j < size) (length-range_with_len a n) l in
    ap p (get_or-range_with_len a n j d inside) ∙ h (a + j) (omega arith) (omega (arith, inside)))

pub one_passes : (p : ℕ → Bool) (a n k : ℕ) → a ≤ k → k < a + n → p k ≡ true → list_any p (range_with_len a n) ≡ true
one_passes p a n k l m e =
    let size = length-range_with_len a n in
    let same : a + (k - a) ≡ k = omega (arith, l) in
    list_any_at p (range_with_len a n) (k - a) 0 (omega (arith, size, l, m))
    (ap p (get_or-range_with_len a n (k - a) 0 (omega (arith, l, m)) ∙ same) ∙ e)
