-- Steps of loops that append.
use Rattle.std.proofs.Common.{ℕ, ◌+◌, ◌≡◌, ◌++◌, ◌∷◌, [], Bool, cond, List, filter, ap, sym, ◌∙◌, arith}
use Rattle.std.proofs.lemmas.List.{append_assoc}
use Rattle.std.proofs.lemmas.List.FromFn.{filter_of_map_range_with_len_more}
use Rattle.finite.specs.Lists.{values_below, joined_below}
use Rattle.finite.proofs.Lists.{values_below_more, joined_below_more}

pub filter_step : {A : Type 0} (p : A → Bool) (f : ℕ → A) (n : ℕ) (before after : List A) (x : A) (b : Bool) →
    before ≡ filter p (values_below n f) → x ≡ f n → b ≡ p x → after ≡ before ++ cond b (x ∷ []) [] →
    after ≡ filter p (values_below (n + 1) f)
filter_step p f n before after x b is here selected add =
    add ∙ rw (selected, here, is) (sym (filter_of_map_range_with_len_more p f 0 n n (omega arith)))

pub values_step : {A : Type 0} (f : ℕ → A) (n : ℕ) (before after : List A) (x : A) →
    before ≡ values_below n f → x ≡ f n → after ≡ before ++ x ∷ [] → after ≡ values_below (n + 1) f
values_step f n before after x is here add = add ∙ rw (here, is) (sym (values_below_more n f))

pub joined_step : {A : Type 0} (f : ℕ → List A) (n : ℕ) (before after piece : List A) →
    before ≡ joined_below n f → piece ≡ f n → after ≡ before ++ piece → after ≡ joined_below (n + 1) f
joined_step f n before after piece is here add = add ∙ rw (here, is) (sym (joined_below_more n f))

-- values appended after others
pub later_step : {A : Type 0} (f : ℕ → A) (n : ℕ) (first before after : List A) (x : A) →
    before ≡ first ++ values_below n f → x ≡ f n → after ≡ before ++ x ∷ [] → after ≡ first ++ values_below (n + 1) f
later_step f n first before after x is here add =
    add ∙ rw (here, is) (append_assoc first (values_below n f) (f n ∷ []) ∙ ap (λ xs. first ++ xs) (sym (values_below_more n f)))
