-- Lists read from bytes, element by element.
use Rattle.std.proofs.Common.{◌≡◌, ◌≢◌, ℕ, ◌+◌, ◌*◌, ◌<◌, ◌≤◌, List, [], ◌∷◌, ◌++◌, length, take, drop, set, get_or, refl, sym, ap, ◌∙◌, inl, inr, arith}
use Rattle.std.specs.List.{flat_map}
use Rattle.std.proofs.Math.Seq.{take-add}
use Rattle.std.proofs.lemmas.Bool.{cases_lt}
use Rattle.std.proofs.lemmas.List.{append-nil, length-set, take_more_set, take_all, drop-drop, get_or-set_other, get_or-set_same}
use Rattle.std.proofs.lemmas.List.Concat.{flat_map-append}
use Rattle.tail_cert.specs.Certificate.{Counted}

-- the first i of n elements have been read, each from w bytes, and have property P
pub record IsReadTo {A : Type 0} (f : A → List ℕ) (P : A → Type 0) (w n at : ℕ) (bytes : List ℕ) (xs : List A) (i : ℕ) : Type 0 where
  pub size : length xs ≡ n
  pub read : flat_map f (take i xs) ≡ take (w * i) (drop at bytes)
  pub all : (k : ℕ) (d : A) → k < i → P (get_or xs k d)

pub read_none : {A : Type 0} (f : A → List ℕ) (P : A → Type 0) (w n at : ℕ) (bytes : List ℕ) (xs : List A) → length xs ≡ n → IsReadTo f P w n at bytes xs 0
read_none f P w n at bytes xs size = record {
  size = size;
  read = let z : w * 0 ≡ 0 = omega arith in rw z refl;
  all = λ k d below. absurd (omega arith);
}

pub read_more : {A : Type 0} (f : A → List ℕ) (P : A → Type 0) (w n at : ℕ) (bytes : List ℕ) (xs : List A) (i : ℕ) (y : A) →
    IsReadTo f P w n at bytes xs i → i < n → f y ≡ take w (drop (at + w * i) bytes) → P y → IsReadTo f P w n at bytes (set xs i y) (i + 1)
read_more f P w n at bytes xs i y known below e h =
    let inside : i < length xs = omega (arith, known.size, below) in
    let rest : drop (w * i) (drop at bytes) ≡ drop (at + w * i) bytes = drop-drop (w * i) at bytes in
    let times : w * (i + 1) ≡ w * i + w = omega arith in
    let joined : take (w * (i + 1)) (drop at bytes) ≡ take (w * i) (drop at bytes) ++ take w (drop (at + w * i) bytes) =
    ap (λ m. take m (drop at bytes)) times ∙ take-add (w * i) w (drop at bytes) ∙ ap (λ l. take (w * i) (drop at bytes) ++ take w l) rest in
    let pieces : flat_map f (take (i + 1) (set xs i y)) ≡ flat_map f (take i xs) ++ f y =
    ap (flat_map f) (take_more_set xs i y inside) ∙ flat_map-append f (take i xs) (y ∷ []) ∙ ap (λ l. flat_map f (take i xs) ++ l) (append-nil (f y)) in
    record {
      size = length-set xs i y ∙ known.size;
      read = pieces ∙ ap (λ l. l ++ f y) known.read ∙ ap (λ l. take (w * i) (drop at bytes) ++ l) e ∙ sym joined;
      all = λ k d l. elim (cases_lt k i) [
        | inl a ↦ let ne : k ≢ i = omega arith in rw (get_or-set_other xs i k y d ne) (known.all k d a)
        | inr b ↦ let s : k ≡ i = omega arith in rw (s, get_or-set_same xs i y d inside) h
      ];
    }

pub read_all : {A : Type 0} (f : A → List ℕ) (P : A → Type 0) (w n at : ℕ) (bytes : List ℕ) (xs : List A) (i : ℕ) →
    IsReadTo f P w n at bytes xs i → n ≤ i → i ≤ n → (flat_map f xs ≡ take (w * n) (drop at bytes)) × Counted n P xs
read_all f P w n at bytes xs i known done most =
    let e : i ≡ n = omega (arith, done, most) in
    let size = known.size in
    let whole : take i xs ≡ xs = take_all i xs (omega (arith, size, done)) in
    let read = rw (whole, e) at known.read in
    (read, record { count = size; all = λ k d inside. known.all k d (omega (arith, inside, size, e)) })
