-- A primary signal stands out, so that its position is a hit and none near it is.
use Rattle.std.proofs.Common.{◌≡◌, ◌≢◌, ℕ, ◌+◌, ◌-◌, ◌*◌, ◌^◌, ◌<◌, ◌≤◌, ◌⊎◌, inl, inr, arith, refl, ap, sym, ◌∙◌, subst, List}
use Rattle.std.specs.List.{Contains}
use Rattle.cs_num.specs.declared.Cpx.{Cpx}
use Rattle.cs_num.specs.declared.Sample.{Sample}
use Rattle.cs_num.specs.Complex.{plus, times, square, sample_at, minus}
use Rattle.cs_num.proofs.Complex.{plus-associates, plus-commutes}
use Rattle.norms.specs.Magnitudes.{energy_below, correlation_below}
use Rattle.norms.proofs.Algebra.{plus-minus}
use Rattle.norms.proofs.Cauchy.{energy_same, energy_split, energy_part, correlation_same, correlation_split, correlation_multiple}
use Rattle.pss_search.specs.Correlation.{pss_grid, wave, wave_power, peak, energy}
use Rattle.pss_search.specs.Hits.{IsAbove, IsLevel, IsHit, found, hits_of}
use Rattle.pss_search.proofs.Symmetry.{power_high}
use Rattle.pss_search.proofs.Listed.{list_is_right}
use Rattle.budget.specs.Received.{in_parts, IsReceived, samples_from}
use Rattle.budget.specs.Peak.{IsPrimaryWithin, StandsOutBy, PrimaryStandsOutBy, PrimaryIsHitWithin, PrimaryIsListedWithin, OnlyHitOfRootWithin, PrimaryStandsOut, PrimaryIsHit, PrimaryIsListed, OnlyHitNear, IsPrimaryAt}
use Rattle.budget.proofs.Parts.{square_in_parts, energy_in_parts, is_received_by_more}
use Rattle.budget.proofs.PeakSums.{IsSharp, IsFaintAt, AreApart, before, skipped, common, wave_is_sharp, waves_are_apart}
use Rattle.budget.proofs.Windows.{Peaks, AreFew, with_errors, true_place, beside, above}

-- the errors of a window
error : Cpx → (ℕ → Cpx) → (ℕ → Cpx) → ℕ → Cpx
error g p r n = minus (r n) (times g (p n))

received_is : (g : Cpx) (p r : ℕ → Cpx) (n : ℕ) → r n ≡ with_errors g p (error g p r) n
unfolding error
received_is g p r n = sym (plus-minus (r n) (times g (p n)))

middle_first : (a b c : Cpx) → plus (plus a b) c ≡ plus b (plus a c)
middle_first a b c = ap (λ (z : Cpx). plus z c) (plus-commutes a b) ∙ plus-associates b a c

-- 128 numbers are a gain in parts times the signal p, with error energy at most `quota` times the gain's square
record HasSmallErrors (quota : ℕ) (g : Cpx) (p r : ℕ → Cpx) : Type 0 where
  pub some : 1 ≤ square g
  pub small : energy_below 128 (error g p r) ≤ quota * square g

-- the energy of a part of the errors
errors_small : (quota : ℕ) (g : Cpx) (p r : ℕ → Cpx) → HasSmallErrors quota g p r → (a m : ℕ) → a + m ≤ 128 → energy_below m (λ k. error g p r (a + k)) ≤ quota * square g
errors_small quota g p r clean a m l =
    part (energy_below (a + m) (error g p r)) (energy_below a (error g p r)) (energy_below m (λ k. error g p r (a + k))) (energy_below 128 (error g p r)) (square g)
    (energy_split a m (error g p r)) (energy_part (a + m) 128 (error g p r) l) clean.small
  where
    part : (e i j w n : ℕ) → e ≡ i + j → e ≤ w → w ≤ quota * n → j ≤ quota * n
    part e i j w n same h k = omega (arith, same, h, k)

-- a window x that begins at most 9 samples before or after 128 numbers r, a signal p with errors, correlated with a
-- signal q
near : (quota : ℕ) (g : Cpx) (p q r x : ℕ → Cpx) (d share : ℕ) → d < 19 → HasSmallErrors quota g p r → ((n : ℕ) → x (before d + n) ≡ r (skipped d + n)) → IsFaintAt quota share p q d →
    4 * square (correlation_below 128 x q) ≤ share * energy_below 128 x
near quota g p q r x d share l clean known faint =
    subst (λ (z : Cpx). 4 * square z ≤ share * energy_below 128 x) (sym whole)
    (subst (λ (n : ℕ). 4 * square (plus (correlation_below m (with_errors g v e) f) (plus (correlation_below a x q) (correlation_below s y o))) ≤ share * n) (sym energies)
    (beside quota a m s g x v e y q f o (energy_below 128 q) share (part_le (energy_below a q) (energy_below m f) (energy_below s o) (energy_below 128 q) (split q))
    (errors_small quota g p r clean s m (omega (arith, l))) faint))
  where
    a : ℕ
    a = before d

    s : ℕ
    s = skipped d

    m : ℕ
    m = common d

    v : ℕ → Cpx
    v n = p (skipped d + n)

    e : ℕ → Cpx
    e n = error g p r (skipped d + n)

    f : ℕ → Cpx
    f n = q (before d + n)

    y : ℕ → Cpx
    y n = x (before d + common d + n)

    o : ℕ → Cpx
    o n = q (before d + common d + n)

    all : before d + common d + skipped d ≡ 128
    all = omega (arith, l)

    same : (n : ℕ) → x (before d + n) ≡ with_errors g v e n
    same n = known n ∙ received_is g p r (skipped d + n)

    part_le : (i j k w : ℕ) → w ≡ i + j + k → j ≤ w
    part_le i j k w h = omega (arith, h)

    split : (z : ℕ → Cpx) → energy_below 128 z ≡ energy_below a z + energy_below m (λ n. z (before d + n)) + energy_below s (λ n. z (before d + common d + n))
    split z = ap (λ n. energy_below n z) (sym all) ∙ energy_split (before d + common d) (skipped d) z
        ∙ ap (λ n. n + energy_below (skipped d) (λ n. z (before d + common d + n))) (energy_split (before d) (common d) z)

    ordered : (i j k : ℕ) → i + j + k ≡ j + (i + k)
    ordered i j k = omega arith

    energies : energy_below 128 x ≡ energy_below m (with_errors g v e) + (energy_below a x + energy_below s y)
    energies = split x ∙ ordered (energy_below a x) (energy_below m (λ n. x (before d + n))) (energy_below s y)
        ∙ ap (λ n. n + (energy_below a x + energy_below s y)) (energy_same m (λ n. x (before d + n)) (with_errors g v e) (λ n b. same n))

    whole : correlation_below 128 x q ≡ plus (correlation_below m (with_errors g v e) f) (plus (correlation_below a x q) (correlation_below s y o))
    whole = ap (λ (n : ℕ). correlation_below n x q) (sym all) ∙ correlation_split (before d + common d) (skipped d) x q
        ∙ ap (λ (z : Cpx). plus z (correlation_below s y o)) (correlation_split (before d) (common d) x q)
        ∙ middle_first (correlation_below a x q) (correlation_below m (λ n. x (before d + n)) f) (correlation_below s y o)
        ∙ ap (λ (z : Cpx). plus z (plus (correlation_below a x q) (correlation_below s y o))) (correlation_same m (λ n. x (before d + n)) (with_errors g v e) f f (λ n b. same n) (λ n b. refl))

-- ---- in a recording

-- the samples from an index, in parts
parts_from : List Sample → ℕ → ℕ → Cpx
parts_from recording t n = in_parts (sample_at recording (t + n))

clean_from : (quota n2 t : ℕ) (g : Cpx) (recording : List Sample) → IsReceived quota g (pss_grid n2) (samples_from recording t) → HasSmallErrors quota g (wave n2) (parts_from recording t)
unfolding error wave parts_from
clean_from quota n2 t g recording received = record { some = some (square g) received.sounds; small = received.quiet }
  where
    some : (n : ℕ) → 2 ^ 28 ≤ n → 1 ≤ n
    some n h = omega (arith, h)

-- the peak and the energy of samples in parts are 2^28 times those of the samples
record AreInParts (c e c' e' : ℕ) : Type 0 where
  peaks : c' ≡ 268435456 * c
  energies : e' ≡ 268435456 * e

in_parts_from : (recording : List Sample) (n2 t : ℕ) →
    AreInParts (peak recording n2 t) (energy recording t) (square (correlation_below 128 (parts_from recording t) (wave n2))) (energy_below 128 (parts_from recording t))
unfolding peak energy parts_from
in_parts_from recording n2 t = record {
  peaks = ap (λ (z : Cpx). square z) (correlation_multiple 128 16384 (samples_from recording t) (wave n2)) ∙ square_in_parts (correlation_below 128 (samples_from recording t) (wave n2));
  energies = energy_in_parts 128 (samples_from recording t);
}

low_in_parts : (c e c' e' share : ℕ) → AreInParts c e c' e' → 4 * c' ≤ share * e' → 4 * c ≤ share * e
low_in_parts c e c' e' share parts h =
    let k : share * e' ≡ share * (268435456 * e) = ap (λ (n : ℕ). share * n) parts.energies in
    omega (arith, parts.peaks, k, h)

peaks_in_parts : (least c e c' e' w : ℕ) → AreInParts c e c' e' → Peaks least c' e' w → Peaks least c e w
peaks_in_parts least c e c' e' w parts high =
    let k : least * (e' * w) ≡ least * (268435456 * e * w) = ap (λ (n : ℕ). least * (n * w)) parts.energies in
    record { some = omega (arith, parts.energies, high.some); high = omega (arith, parts.peaks, k, high.high) }

same_sample : (recording : List Sample) (t u : ℕ) → u ≤ t + 9 → t ≤ u + 9 → (n : ℕ) → parts_from recording u (before (u + 9 - t) + n) ≡ parts_from recording t (skipped (u + 9 - t) + n)
unfolding parts_from
same_sample recording t u a b n =
    ap (λ (i : ℕ). in_parts (sample_at recording i)) (let e : u + (before (u + 9 - t) + n) ≡ t + (skipped (u + 9 - t) + n) = omega (arith, a, b) in e)

-- within 9 samples, the metric of another signal, or of the signal itself next to its position, is small
near_low : (quota : ℕ) (recording : List Sample) (t u n2 m2 share : ℕ) (g : Cpx) → HasSmallErrors quota g (wave n2) (parts_from recording t) → u ≤ t + 9 → t ≤ u + 9 →
    IsFaintAt quota share (wave n2) (wave m2) (u + 9 - t) → 4 * peak recording m2 u ≤ share * energy recording u
near_low quota recording t u n2 m2 share g clean a b faint =
    low_in_parts (peak recording m2 u) (energy recording u) (square (correlation_below 128 (parts_from recording u) (wave m2))) (energy_below 128 (parts_from recording u)) share
    (in_parts_from recording m2 u)
    (near quota g (wave n2) (wave m2) (parts_from recording t) (parts_from recording u) (u + 9 - t) share (omega (arith, a)) clean (same_sample recording t u a b) faint)

beside_low : (recording : List Sample) (t u n2 : ℕ) (g : Cpx) → IsSharp (wave n2) → HasSmallErrors 14000 g (wave n2) (parts_from recording t) → u ≢ t → u ≤ t + 9 → t ≤ u + 9 →
    4 * peak recording n2 u ≤ 3 * wave_power n2 * energy recording u
unfolding wave_power
beside_low recording t u n2 g sharp clean ne a b =
    near_low 14000 recording t u n2 n2 (3 * energy_below 128 (wave n2)) g clean a b (sharp.beside (u + 9 - t) (omega (arith, a)) (omega (arith, ne, a, b)))

other_low : (recording : List Sample) (t u n2 m2 : ℕ) (g : Cpx) → AreApart (wave n2) (wave m2) → HasSmallErrors 1800 g (wave n2) (parts_from recording t) → u ≤ t + 9 → t ≤ u + 9 →
    4 * peak recording m2 u ≤ (wave_power m2 - 1) * energy recording u
unfolding wave_power
other_low recording t u n2 m2 g apart clean a b =
    near_low 1800 recording t u n2 m2 (energy_below 128 (wave m2) - 1) g clean a b (apart (u + 9 - t) (omega (arith, a)))

peaks_at : (quota least lost : ℕ) (recording : List Sample) (t n2 : ℕ) (g : Cpx) → AreFew quota least lost → IsSharp (wave n2) → HasSmallErrors quota g (wave n2) (parts_from recording t) →
    Peaks least (peak recording n2 t) (energy recording t) (wave_power n2)
unfolding wave_power
peaks_at quota least lost recording t n2 g numbers sharp clean =
    let r : ℕ → Cpx = parts_from recording t in
    let p : ℕ → Cpx = wave n2 in
    let e : ℕ → Cpx = λ n. error g p r (0 + n) in
    let same : (n : ℕ) → n < 128 → r n ≡ with_errors g p e n = λ n l. received_is g p r n ∙ ap (λ j. plus (times g (p n)) (error g p r j)) (none n) in
    peaks_in_parts least (peak recording n2 t) (energy recording t) (square (correlation_below 128 r p)) (energy_below 128 r) (energy_below 128 p) (in_parts_from recording n2 t)
    (subst (λ (z : Cpx). Peaks least (square z) (energy_below 128 r) (energy_below 128 p)) (sym (correlation_same 128 r (with_errors g p e) p p same (λ n l. refl)))
    (subst (λ (n : ℕ). Peaks least (square (correlation_below 128 (with_errors g p e) p)) n (energy_below 128 p)) (sym (energy_same 128 r (with_errors g p e) same))
    (true_place quota least lost g p e numbers clean.some sharp.power (errors_small quota g p r clean 0 128 (omega arith)))))
  where
    none : (n : ℕ) → n ≡ 0 + n
    none n = omega arith

power_some : (n2 : ℕ) → IsSharp (wave n2) → 0 < wave_power n2
unfolding wave_power
power_some n2 sharp = some (energy_below 128 (wave n2)) sharp.power
  where
    some : (w : ℕ) → 1990000 ≤ w → 0 < w
    some w h = omega (arith, h)

few_errors : AreFew 1800 999 1
few_errors = record { all = refl; some = omega arith; few = omega arith }

more_errors : AreFew 14000 990 10
more_errors = record { all = refl; some = omega arith; few = omega arith }

pub primary_stands_out_by : PrimaryStandsOutBy 14000 990
primary_stands_out_by recording t n2 primary =
    let sharp = wave_is_sharp n2 primary.root in
    let clean = clean_from 14000 n2 t primary.gain recording primary.received in
    let here = peaks_at 14000 990 10 recording t n2 primary.gain more_errors sharp clean in
    record {
      sounds = here.some;
      clear = here.high;
      above = λ u ne a b sounds. record {
        first_sounds = here.some;
        second_sounds = sounds;
        greater = above (peak recording n2 t) (energy recording t) (wave_power n2) (peak recording n2 u) (energy recording u) here.high
            (beside_low recording t u n2 primary.gain sharp clean ne a b) here.some sounds (power_some n2 sharp);
      };
    }

-- small errors are within the larger bound
among : (recording : List Sample) (t n2 : ℕ) → IsPrimaryAt recording t n2 → IsPrimaryWithin 14000 recording t n2
among recording t n2 primary = record {
  gain = primary.gain;
  root = primary.root;
  received = is_received_by_more 1800 14000 primary.gain (pss_grid n2) (samples_from recording t) (omega arith) primary.received;
}

pub primary_stands_out : PrimaryStandsOut
primary_stands_out recording t n2 primary = record {
  sounds = here.some;
  clear = here.high;
  above = (primary_stands_out_by recording t n2 (among recording t n2 primary)).above;
}
  where
    here : Peaks 999 (peak recording n2 t) (energy recording t) (wave_power n2)
    here = peaks_at 1800 999 1 recording t n2 primary.gain few_errors (wave_is_sharp n2 primary.root) (clean_from 1800 n2 t primary.gain recording primary.received)

-- of two positions, at most one is above the other
not_above : (recording : List Sample) (n2 t u : ℕ) → IsAbove recording n2 t u → ¬ IsAbove recording n2 u t
not_above recording n2 t u h k = absurd (clash (peak recording n2 u * energy recording t) (peak recording n2 t * energy recording u) h.greater k.greater)
  where
    clash : (a b : ℕ) → a < b → b < a → ⊥
    clash a b p q = omega (arith, p, q)

not_level : (recording : List Sample) (n2 t u : ℕ) → IsAbove recording n2 t u → ¬ IsLevel recording n2 u t
not_level recording n2 t u h k = absurd (clash (peak recording n2 u * energy recording t) (peak recording n2 t * energy recording u) h.greater k.equal)
  where
    clash : (a b : ℕ) → a < b → b ≡ a → ⊥
    clash a b p q = omega (arith, p, q)

not_above_itself : (recording : List Sample) (n2 t : ℕ) → ¬ IsAbove recording n2 t t
not_above_itself recording n2 t h = clash (peak recording n2 t * energy recording t) h.greater
  where
    clash : (a : ℕ) → a < a → ⊥
    clash a p = omega (arith, p)

same_or_not : (u t : ℕ) → (u ≡ t) ⊎ (u ≢ t)
same_or_not u t = grind arith

clear_enough : (c e w : ℕ) → 250 * (e * w) ≤ 1000 * c → e * w ≤ 4 * c
clear_enough c e w h = omega (arith, h)

-- ---- by the rule of the list

-- in the span of one frame the place of a signal that stands out by the rule of the list is a hit
pub standing_is_hit : (recording : List Sample) (t n2 : ℕ) → StandsOutBy 250 recording t n2 → 137 ≤ t → t ≤ 19336 → IsHit recording t n2
standing_is_hit recording t n2 stands low high = record {
  from_first = low;
  to_last = high;
  sounds = stands.sounds;
  clear = clear_enough (peak recording n2 t) (energy recording t) (wave_power n2) stands.clear;
  none_above = λ u a b over. elim (same_or_not u t) [
    | inl same ↦ not_above_itself recording n2 t (subst (λ n. IsAbove recording n2 n t) same over)
    | inr ne ↦ not_above recording n2 t u (stands.above u ne a b over.first_sounds) over
  ];
  none_level_before = λ u before b level. not_level recording n2 t u (stands.above u (omega arith) (omega arith) b level.first_sounds) level;
}

-- which is listed
pub standing_is_listed : (recording : List Sample) (t n2 : ℕ) → StandsOutBy 250 recording t n2 → n2 < 3 → 137 ≤ t → t ≤ 19336 → Contains (hits_of recording) (found recording t n2)
standing_is_listed recording t n2 stands root low high =
    (list_is_right recording (found recording t n2)).1 (record { root = root; is_hit = standing_is_hit recording t n2 stands low high; measured = refl })

-- and no other place within 9 is a hit of its root, wherever it stands
pub only_hit_near_standing : (recording : List Sample) (t u n2 : ℕ) → StandsOutBy 250 recording t n2 → u ≤ t + 9 → t ≤ u + 9 → IsHit recording u n2 → u ≡ t
only_hit_near_standing recording t u n2 stands a b hit = elim (same_or_not u t) [
  | inl same ↦ same
  | inr ne ↦ absurd (hit.none_above t b a (stands.above u ne a b hit.sounds))
]

-- a primary signal stands out by more
quarter : (c e : ℕ) → 990 * e ≤ 1000 * c → 250 * e ≤ 1000 * c
quarter c e h = omega (arith, h)

pub primary_stands_by_rule : PrimaryStandsOutBy 14000 250
primary_stands_by_rule recording t n2 primary =
    let stands = primary_stands_out_by recording t n2 primary in
    record { sounds = stands.sounds; clear = quarter (peak recording n2 t) (energy recording t * wave_power n2) stands.clear; above = stands.above }

pub primary_is_hit_within : PrimaryIsHitWithin 14000
primary_is_hit_within recording t n2 primary low high = standing_is_hit recording t n2 (primary_stands_by_rule recording t n2 primary) low high

pub primary_is_hit : PrimaryIsHit
primary_is_hit recording t n2 primary = primary_is_hit_within recording t n2 (among recording t n2 primary)

pub primary_is_listed_within : PrimaryIsListedWithin 14000
primary_is_listed_within recording t n2 primary low high = standing_is_listed recording t n2 (primary_stands_by_rule recording t n2 primary) (below primary.root) low high
  where
    below : n2 ≤ 2 → n2 < 3
    below h = omega arith

pub primary_is_listed : PrimaryIsListed
primary_is_listed recording t n2 primary = primary_is_listed_within recording t n2 (among recording t n2 primary)

pub only_hit_of_root_within : OnlyHitOfRootWithin 14000
only_hit_of_root_within recording t u n2 primary a b hit = only_hit_near_standing recording t u n2 (primary_stands_by_rule recording t n2 primary) a b hit

-- ---- other roots, with small errors

-- if four times the peak is less than the power times the energy, there is no hit
faint_is_no_hit : (c e w : ℕ) → 1990000 ≤ w → 0 < e → 4 * c ≤ (w - 1) * e → e * w ≤ 4 * c → ⊥
faint_is_no_hit c e w power some low clear =
    let less : (w - 1) * e + e ≡ w * e = step e (w - 1) w (omega (arith, power)) in
    omega (arith, low, clear, less, some)
  where
    step : (e v w : ℕ) → v + 1 ≡ w → v * e + e ≡ w * e
    step e v w h = let same : (v + 1) * e ≡ w * e = ap (λ (n : ℕ). n * e) h in omega (arith, same)

same_root : (recording : List Sample) (t u n2 m2 : ℕ) → IsPrimaryAt recording t n2 → m2 ≤ 2 → u ≤ t + 9 → t ≤ u + 9 → IsHit recording u m2 → m2 ≡ n2
same_root recording t u n2 m2 primary root a b hit = elim (same_or_not m2 n2) [
  | inl same ↦ same
  | inr ne ↦ absurd (faint_is_no_hit (peak recording m2 u) (energy recording u) (wave_power m2) (power_high m2 root) hit.sounds
      (other_low recording t u n2 m2 primary.gain (waves_are_apart n2 m2 primary.root root (λ e. ne (sym e)))
      (clean_from 1800 n2 t primary.gain recording primary.received) a b) hit.clear)
]

pub only_hit_near : OnlyHitNear
only_hit_near recording t u n2 m2 primary root a b hit =
    let same : m2 ≡ n2 = same_root recording t u n2 m2 primary root a b hit in
    (only_hit_of_root_within recording t u n2 (among recording t n2 primary) a b (subst (λ n. IsHit recording u n) same hit), same)
