-- Values with magnitude at most 4,096.
use Rattle.std.proofs.Common.{◌≡◌, ℕ, zero, suc, ◌+◌, ◌<◌, List, [], ◌∷◌, length, get_or, ℤ, pos, inl, inr, arith, rules}
use Rattle.std.specs.Prelude.{All}
use mir.Val.{SFits, to_z, of_z}
use mir.Syntax.{w32}
use Rattle.std.proofs.lemmas.Bool.{cases_lt}
use Rattle.std.proofs.lemmas.Int.{ints, clamps, to_z-of_z}
use Rattle.std.proofs.lemmas.List.{get_or_past}
use Rattle.std.proofs.lemmas.List.Elements.{All-get_or, All-from_get_or}
use Rattle.finite.proofs.Lists.{values_below-All}
use Rattle.turbo_dec.specs.Decoder.{IsSmall, Values, values_of, at, extrinsic, extrinsics}
use Rattle.turbo_code.specs.Streams.{tail_items}

-- a value within that magnitude is unchanged by conversion to 32 bits and back
pub small_back : (z : ℤ) → IsSmall z → to_z w32 (of_z w32 z) ≡ z
small_back z h = let fits : SFits w32 z = search (arith, ints, rules) in to_z-of_z w32 z fits

-- an item in a list of small values is small, as is the 0 past its end
pub small_item : (zs : List ℤ) (k : ℕ) → All IsSmall zs → IsSmall (at zs k)
small_item zs k h = elim (cases_lt k (length zs)) [
  | inl inside ↦ All-get_or IsSmall zs k (pos 0) inside h
  | inr past ↦ rw (get_or_past zs k (pos 0) past) (omega arith)
]

-- a stream with small sums is small
small_stream : (sums : List (List ℤ)) (t : ℕ) → All (All IsSmall) sums → All IsSmall (get_or sums t [])
small_stream sums t h = elim (cases_lt t (length sums)) [
  | inl inside ↦ All-get_or (All IsSmall) sums t [] inside h
  | inr past ↦ rw (get_or_past sums t [] past) (All-from_get_or IsSmall [] (pos 0) (λ i below. absurd (omega (arith, below))))
]

small_six : (a b c d e f : ℤ) → IsSmall a → IsSmall b → IsSmall c → IsSmall d → IsSmall e → IsSmall f →
    All IsSmall (a ∷ b ∷ c ∷ d ∷ e ∷ f ∷ [])
small_six a b c d e f ha hb hc hd he hf = All-from_get_or IsSmall (a ∷ b ∷ c ∷ d ∷ e ∷ f ∷ []) (pos 0) each
  where
    each : (i : ℕ) → i < 6 → IsSmall (get_or (a ∷ b ∷ c ∷ d ∷ e ∷ f ∷ []) i (pos 0))
    each zero h = ha
    each (suc zero) h = hb
    each (suc (suc zero)) h = hc
    each (suc (suc (suc zero))) h = hd
    each (suc (suc (suc (suc zero)))) h = he
    each (suc (suc (suc (suc (suc zero))))) h = hf
    each (suc (suc (suc (suc (suc (suc i)))))) h = absurd (omega (arith, h))

-- a tail's values are small
pub small_tail : (sums : List (List ℤ)) (p : ℕ) → All (All IsSmall) sums → All IsSmall (tail_items (pos 0) sums p)
small_tail sums p h =
    let s0 = small_stream sums 0 h in
    let s1 = small_stream sums 1 h in
    let s2 = small_stream sums 2 h in
    small_six _ _ _ _ _ _ (small_item _ p s0) (small_item _ p s1) (small_item _ p s2)
    (small_item _ (p + 1) s0) (small_item _ (p + 1) s1) (small_item _ (p + 1) s2)

-- extrinsic values are small
small_extrinsic : (v : Values) (k : ℕ) → IsSmall (extrinsic v k)
unfolding extrinsic
small_extrinsic v k = omega (arith, ints, clamps)

pub small_extrinsics : (v : Values) → All IsSmall (extrinsics v)
unfolding extrinsics
small_extrinsics v = values_below-All IsSmall (length v.systematic) (extrinsic v) (pos 0) (λ k below. small_extrinsic v k)

-- all values of a decoder are small
pub record AreSmall (v : Values) : Type 0 where
  pub systematic : (k : ℕ) → IsSmall (at v.systematic k)
  pub parity : (k : ℕ) → IsSmall (at v.parity k)
  pub tail : (k : ℕ) → IsSmall (at v.tail k)
  pub prior : (k : ℕ) → IsSmall (at v.prior k)

pub all_small : (s p t q : List ℤ) → All IsSmall s → All IsSmall p → All IsSmall t → All IsSmall q → AreSmall (values_of s p t q)
all_small s p t q hs hp ht hq = record {
  systematic = λ k. small_item s k hs;
  parity = λ k. small_item p k hp;
  tail = λ k. small_item t k ht;
  prior = λ k. small_item q k hq;
}
