use Rattle.std.proofs.Common.{rules, arith, ◌≡◌, ℕ, ◌+◌, ◌*◌, ◌/◌, ◌%◌, ◌<◌, ◌∙◌, ap, ap₂, sym, subst, refl, List, length, length-set, slice_index_or, replicate}
use Rattle.std.proofs.lemmas.List.{get_or-replicate}
use Rattle.std.proofs.lemmas.List.Elements.{All-get_or, All-from_get_or}
use Rattle.std.proofs.lemmas.List.FromFn.{fill_by_all}
use Rattle.std.proofs.lemmas.List.Edits.{fill_by_more}
use Rattle.finite.specs.Lists.{values_below}
use Rattle.finite.proofs.Lists.{values_below_at}
use Rattle.cs_num.specs.declared.Cpx.{Cpx}
use Rattle.cs_num.specs.Complex.{IsWithin, nothing, plus, times, value_at}
use Rattle.cs_num.specs.Rounding.{rounded}
use Rattle.cs_num.specs.Sums.{complex_sum_below}
use Rattle.cs_num.proofs.Complex.{times-within}
use Rattle.cs_num.proofs.Sums.{complex_sum_below_none, complex_sum_below_more}
use Rattle.fold128.specs.declared.quartet.Quartet.{Quartet}
use Rattle.fold128.specs.Tables.{w_at}
use Rattle.fold128.specs.Symbol.{frequency, useful_term, useful_at, useful_part}
use Rattle.fold128.specs.Folding.{taken, given_at, unfolded, added, empty_quartet, AreWithin}
use Rattle.fold128.proofs.Entries.{w_small}
use Rattle.fold128.proofs.FoldSizes.{are-more, added-within}
use Rattle.fold128.proofs.Samples.{useful_is}
use Rattle.fold128.proofs.Tones.{tone_later, given-added, given_at-empty, taken-unfolded}
use Rattle.fold128.proofs.symbol.synth.Goals as goal

nothing_small : (n : ℕ) → IsWithin n nothing
nothing_small n = record { re = omega arith; im = omega arith }

pub loop-k-init : goal.loop-k-init
loop-k-init c = record {
  whole = refl;
  each = λ n inside. ap (given_at (n / 32)) (empties (n % 32) (omega arith)) ∙ given_at-empty (n / 32) (omega (arith, inside)) ∙ sym (complex_sum_below_none (useful_term (value_at c.args.grid.now) n));
  small = λ m inside. subst (AreWithin 0) (sym (empties m inside)) (record { zero = nothing_small 0; one = nothing_small 0; two = nothing_small 0; three = nothing_small 0 });
}
  where
    empties : (m : ℕ) → m < 32 → slice_index_or (replicate 32 empty_quartet) m empty_quartet ≡ empty_quartet
    empties m inside = get_or-replicate 32 m empty_quartet empty_quartet inside

pub add_tone-requires-clause-small : goal.add_tone-requires-clause-small
add_tone-requires-clause-small c =
    let long = c.loop-k.invariant.whole in
    All-from_get_or (AreWithin 1073741824) c.loop-k.parts empty_quartet
    (λ m inside. are-more (c.loop-k.k * 4161536) 1073741824 _ (c.loop-k.invariant.small m (omega (arith, inside, long))) (omega arith))

-- one more subcarrier extends the sum by its term
step : (grid : ℕ → Cpx) (k n f : ℕ) (p q : Quartet) → n < 128 → f ≡ frequency k → q ≡ added p (f % 4) (times (grid k) (w_at (f * (n % 32)))) → given_at (n / 32) p ≡ complex_sum_below k (useful_term grid n)
    → given_at (n / 32) q ≡ complex_sum_below (k + 1) (useful_term grid n)
step grid k n f p q inside is e before =
    let turned : n % 32 + 32 * (n / 32) ≡ n = omega arith in
    let later = tone_later (grid k) f (n % 32) (n / 32) (omega (arith, inside)) in
    ap (given_at (n / 32)) e
    ∙ given-added p (f % 4) (n / 32) (times (grid k) (w_at (f * (n % 32)))) (omega arith)
    ∙ ap₂ plus before (later ∙ ap₂ (λ (g m : ℕ). times (grid k) (w_at (g * m))) is turned)
    ∙ sym (complex_sum_below_more k (useful_term grid n))

pub loop-k-preserved : goal.loop-k-preserved
loop-k-preserved c =
    let grid = value_at c.args.grid.now in
    let k : ℕ = c.loop-k.k in
    let f : ℕ = c.frequency_of.result in
    let more : k * 4161536 + 4161536 ≡ (k + 1) * 4161536 = omega arith in
    let wide : length c.args.grid.now ≡ 72 = search rules in
    let value : IsWithin 127 (grid k) = All-get_or (IsWithin 127) c.args.grid.now k nothing (omega arith) c.requires in
    record {
      whole = search rules;
      each = λ n inside. step grid k n f _ _ inside c.frequency_of.ensures.value (c.add_tone.ensures (n % 32) (omega arith)) (c.loop-k.invariant.each n inside);
      small = λ m inside. rw (c.add_tone.ensures m inside) (subst (λ b. AreWithin b (added (slice_index_or c.loop-k.parts m empty_quartet) (f % 4) (times (grid k) (w_at (f * m))))) more (added-within _ (f % 4) _ (k * 4161536) 4161536 (c.loop-k.invariant.small m inside) (times-within (grid k) (w_at (f * m)) 127 16384 2080768 value (w_small (f * m)) (omega arith))));
    }

pub unfold-samples-requires : goal.unfold-samples-requires
unfold-samples-requires c =
    let long = c.loop-k.invariant.whole in
    All-from_get_or (AreWithin 1073741824) c.loop-k.parts empty_quartet
    (λ m inside. are-more (c.loop-k.k * 4161536) 1073741824 _ (c.loop-k.invariant.small m (omega (arith, inside, long))) (omega arith))

-- ---- the samples

sample_is : (grid : ℕ → Cpx) (parts samples : List Quartet) (n : ℕ) → n < 128 → samples ≡ values_below 32 (λ m. unfolded (slice_index_or parts m empty_quartet))
    → given_at (n / 32) (slice_index_or parts (n % 32) empty_quartet) ≡ complex_sum_below 72 (useful_term grid n)
    → rounded (taken (slice_index_or samples (n % 32) empty_quartet) (n / 32)) 17 ≡ useful_at grid n
sample_is grid parts samples n inside is sum =
    ap (λ z. rounded z 17)
    (ap (λ list. taken (slice_index_or list (n % 32) empty_quartet) (n / 32)) is
    ∙ ap (λ (p : Quartet). taken p (n / 32)) (values_below_at (λ m. unfolded (slice_index_or parts m empty_quartet)) 32 (n % 32) empty_quartet (omega arith))
    ∙ taken-unfolded (slice_index_or parts (n % 32) empty_quartet) (n / 32) (omega (arith, inside))
    ∙ sum)
    ∙ sym (useful_is grid n)

pub loop-n-preserved : goal.loop-n-preserved
loop-n-preserved c =
    let grid = value_at c.args.grid.now in
    let n : ℕ = c.loop-n.n in
    let last : c.loop-k.k ≡ 72 = omega arith in
    let sum = subst (λ k. given_at (n / 32) (slice_index_or c.loop-k.parts (n % 32) empty_quartet) ≡ complex_sum_below k (useful_term grid n)) last (c.loop-k.invariant.each n (omega arith)) in
    let here = c.round_shift.ensures ∙ ap (λ z. rounded z 17) c.of_residue.ensures ∙ sample_is grid c.loop-k.parts c.unfold-samples.result n (omega arith) c.unfold-samples.ensures.value sum in
    record {
      whole = length-set c.loop-n.out n _ ∙ c.loop-n.invariant.whole;
      each = rw here (fill_by_more (useful_at grid) c.loop-n.out n nothing (omega arith) c.loop-n.invariant.each);
    }

pub returns : goal.returns
unfolding useful_part
returns c =
    let last : c.loop-n.n ≡ 128 = omega arith in
    fill_by_all (useful_at (value_at c.args.grid.now)) c.loop-n.out 128 nothing c.loop-n.invariant.whole (λ k l. c.loop-n.invariant.each k (omega arith))
