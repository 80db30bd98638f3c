-- The count of list entries that match a sent cell.
use Rattle.std.proofs.Common.{◌≡◌, ◌⊎◌, inl, inr, ℕ, ◌+◌, ◌<◌, List, [], ◌∷◌, ◌++◌, length, take, get_or, refl, ap, sym, subst, ◌∙◌, arith, add-one}
use Rattle.std.proofs.Math.Seq.{take-suc}
use Rattle.std.specs.List.{AllPairs, Contains}
use Rattle.explain.proofs.Sorted.{in_none, in_cons, Contains-here, Contains-later, AllPairs-head, AllPairs-tail}
use Rattle.lte_top.specs.Making.{Counts}

-- ---- a count is unique

pub one_count : {A : Type 0} (P : A → Type 0) (xs : List A) (m n : ℕ) → Counts P xs m → Counts P xs n → m ≡ n
unfolding Counts
one_count P [] m n a b = a ∙ sym b
one_count P (x ∷ xs) m n (inl (p, (k, e, a))) (inl (q, (j, f, b))) = let same = one_count P xs k j a b in omega (arith, e, f, same)
one_count P (x ∷ xs) m n (inl (p, (k, e, a))) (inr (q, b)) = absurd (q p)
one_count P (x ∷ xs) m n (inr (p, a)) (inl (q, (j, f, b))) = absurd (p q)
one_count P (x ∷ xs) m n (inr (p, a)) (inr (q, b)) = one_count P xs m n a b

-- ---- one member more

pub counts_more : {A : Type 0} (P : A → Type 0) (xs : List A) (x : A) (n : ℕ) → Counts P xs n → P x → Counts P (xs ++ x ∷ []) (n + 1)
unfolding Counts
counts_more P [] x n a p = inl (p, (0, ap (λ k. k + 1) a, refl))
counts_more P (y ∷ xs) x n (inl (q, (k, e, a))) p = inl (q, (k + 1, ap (λ j. j + 1) e, counts_more P xs x k a p))
counts_more P (y ∷ xs) x n (inr (q, a)) p = inr (q, counts_more P xs x n a p)

pub counts_other : {A : Type 0} (P : A → Type 0) (xs : List A) (x : A) (n : ℕ) → Counts P xs n → (P x → ⊥) → Counts P (xs ++ x ∷ []) n
unfolding Counts
counts_other P [] x n a p = inr (p, a)
counts_other P (y ∷ xs) x n (inl (q, (k, e, a))) p = inl (q, (k, e, counts_other P xs x k a p))
counts_other P (y ∷ xs) x n (inr (q, a)) p = inr (q, counts_other P xs x n a p)

pub counts_nothing : {A : Type 0} (P : A → Type 0) → Counts P [] 0
unfolding Counts
counts_nothing P = refl

-- ---- one member of a strictly ordered list

none_counted : {A : Type 0} (P : A → Type 0) (xs : List A) (n : ℕ) → ((x : A) → Contains xs x → P x → ⊥) → Counts P xs n → n ≡ 0
unfolding Counts
none_counted P [] n none a = a
none_counted P (x ∷ xs) n none (inl (p, (k, e, a))) = absurd (none x (Contains-here x xs) p)
none_counted P (x ∷ xs) n none (inr (p, a)) = none_counted P xs n (λ y inside q. none y (Contains-later x xs y inside) q) a

-- if only one member of a strictly ordered list has the property, the count is 1
pub one_counted : {A : Type 0} (R : A → A → Type 0) (P : A → Type 0) → ((x : A) → R x x → ⊥) → (xs : List A) (e : A) (n : ℕ) → AllPairs R xs → Contains xs e → P e
    → ((x : A) → Contains xs x → P x → x ≡ e) → Counts P xs n → n ≡ 1
unfolding Counts
one_counted R P apart [] e n order inside p only a = absurd (in_none e inside)
one_counted R P apart (y ∷ ys) e n order inside p only (inl (q, (k, f, a))) =
    let here : y ≡ e = only y (Contains-here y ys) q in
    let none : k ≡ 0 = none_counted P ys k (λ x there r. apart y (subst (R y) (only x (Contains-later y ys x there) r ∙ sym here) (AllPairs-head R y ys order x there))) a in
    omega (arith, f, none)
one_counted R P apart (y ∷ ys) e n order inside p only (inr (q, a)) =
    by (λ later. one_counted R P apart ys e n (AllPairs-tail R y ys order) later p (λ x there. only x (Contains-later y ys x there)) a) (in_cons y ys e inside)
  where
    by : (Contains ys e → n ≡ 1) → (y ≡ e) ⊎ Contains ys e → n ≡ 1
    by again (inl here) = absurd (q (subst P (sym here) p))
    by again (inr later) = again later

-- ---- a prefix with one member more

front_more : {A : Type 0} (xs : List A) (i : ℕ) (x d : A) → i < length xs → x ≡ get_or xs i d → take i xs ++ x ∷ [] ≡ take (i + 1) xs
front_more xs i x d inside is = ap (λ y. take i xs ++ y ∷ []) is ∙ sym (take-suc xs i d inside) ∙ ap (λ k. take k xs) (sym (add-one i))

pub counts_next : {A : Type 0} (P : A → Type 0) (xs : List A) (i n : ℕ) (x d : A) → i < length xs → x ≡ get_or xs i d → Counts P (take i xs) n → P x → Counts P (take (i + 1) xs) (n + 1)
counts_next P xs i n x d inside is a p = subst (λ l. Counts P l (n + 1)) (front_more xs i x d inside is) (counts_more P (take i xs) x n a p)

pub counts_past : {A : Type 0} (P : A → Type 0) (xs : List A) (i n : ℕ) (x d : A) → i < length xs → x ≡ get_or xs i d → Counts P (take i xs) n → (P x → ⊥) → Counts P (take (i + 1) xs) n
counts_past P xs i n x d inside is a p = subst (λ l. Counts P l n) (front_more xs i x d inside is) (counts_other P (take i xs) x n a p)
