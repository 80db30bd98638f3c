-- The samples of a recording.
use Rattle.std.proofs.Common.{◌≡◌, ℕ, ◌+◌, ◌*◌, ◌%◌, ◌<◌, ◌≤◌, List, length, None, refl, ap, sym, subst, ◌∙◌, arith, ℤ, pos, neg_ℤ, ◌-ℤ◌, get_or, mod-lt}
use Rattle.std.specs.Prelude.{nat_abs, nat_eq, MatchBool, All}
use Rattle.std.proofs.lemmas.Int.{ints}
use Rattle.std.proofs.lemmas.Nat.{mul-le}
use Rattle.finite.specs.Lists.{values_below}
use Rattle.finite.proofs.Lists.{values_below-length, values_below_at, values_below_same, values_below-All}
use Rattle.cs_num.specs.declared.Cpx.{Cpx}
use Rattle.cs_num.specs.declared.Sample.{Sample}
use Rattle.cs_num.specs.Complex.{IsWithin, plus, square, silence, sample_at, value_of, value_at, sample_of}
use Rattle.cs_num.specs.Gain.{IsGain}
use Rattle.lte_types.specs.declared.carrier.Carrier.{Carrier}
use Rattle.lte_types.specs.declared.carrier.Carrier.TheVariants.{OnePort, TwoPorts, LongPrefix, FourPorts}
use Rattle.lte_types.specs.Carrier.{ports_of}
use Rattle.sample_file.specs.Recording.{IsRecording}
use Rattle.cell_plan.specs.declared.emission.Emission.{Emission}
use Rattle.cell_plan.specs.Gains.{AreGains, AreGainsOfFour, HavePairs, AreGainsOf, IsAllowed, IsAllowedOfFour, IsAllowedBy, ArePairedBy}
use Rattle.cell_tx.specs.Clean.{IsClean}
use Rattle.cell_plan.specs.Pair.{gain_of}
use Rattle.cell_tx.specs.Emission.{received_by, emitted, emitted_samples}
use Rattle.cell_tx.specs.Laws.{values_with, EmittedIsClean}
use Rattle.cell_tx.proofs.Received.{received_by-small}
use Rattle.capture_make.specs.declared.made.Made.{Made}
use Rattle.capture_make.specs.declared.made.MadeBy.{MadeBy}
use Rattle.capture_make.specs.Recipe.{plan, number, offset, sample_count, gain, first_gain, second_gain, gains_of_four, gains_of_ports, gains, IsBoundBy, IsBound}
use Rattle.capture_make.specs.Errors.{drawn, error, word}
use Rattle.capture_make.specs.Made.{samples_by, samples, IsMadeBy, IsCleanNumber, IsMade, IsCleanlyMade}

-- ---- the gains

-- the gain suits a clean recording
pub gain_fits : (n : ℕ) → IsGain (gain n)
gain_fits n =
    let some : 1 * 1 ≤ (1 + n % 19) * (1 + n % 19) = mul-le 1 1 (1 + n % 19) (1 + n % 19) (omega arith) (omega arith) in
    let re : (1 + n % 19) * (1 + n % 19) ≤ 19 * 19 = mul-le (1 + n % 19) (1 + n % 19) 19 19 (omega arith) (omega arith) in
    let im : (n % 20) * (n % 20) ≤ 19 * 19 = mul-le (n % 20) (n % 20) 19 19 (omega arith) (omega arith) in
    record { least = omega (arith, some); most = omega (arith, re, im) }

abs-neg : (n : ℕ) → nat_abs (neg_ℤ (pos n)) ≡ n
abs-neg n = omega (arith, ints)

pub first-square : (n : ℕ) → square (first_gain n) ≡ (1 + n % 9) * (1 + n % 9) + n % 10 * (n % 10)
first-square n = refl

pub second-square : (n : ℕ) → square (second_gain n) ≡ n % 11 * (n % 11) + n % 8 * (n % 8)
second-square n = rw (abs-neg (n % 8)) refl

one-square : (x m : ℕ) → x ≤ m → x * x ≤ m * m
one-square x m l = mul-le x x m m l l

pub both_fit : (n : ℕ) → AreGains (first_gain n) (second_gain n)
both_fit n =
    let first = first-square n in
    let second = second-square n in
    let a = one-square (1 + n % 9) 9 (omega arith) in
    let b = one-square (n % 10) 9 (omega arith) in
    let c = one-square (n % 11) 10 (omega arith) in
    let d = one-square (n % 8) 7 (omega arith) in
    let least = mul-le 1 1 (1 + n % 9) (1 + n % 9) (omega arith) (omega arith) in
    record { least = omega (arith, first, least); most = omega (arith, first, second, a, b, c, d) }

-- bounds on the squared magnitudes of four gains
pub record AreNearOneAnother (n : ℕ) : Type 0 where
  pub first : (16 ≤ square (value_at (gains_of_four n) 0)) × (square (value_at (gains_of_four n) 0) ≤ 25)
  pub second : (16 ≤ square (value_at (gains_of_four n) 1)) × (square (value_at (gains_of_four n) 1) ≤ 20)
  pub third : (9 ≤ square (value_at (gains_of_four n) 2)) × (square (value_at (gains_of_four n) 2) ≤ 13)
  pub fourth : (16 ≤ square (value_at (gains_of_four n) 3)) × (square (value_at (gains_of_four n) 3) ≤ 17)

-- a number from 0 to 2 m differs from m by at most m
off_by : (x m : ℕ) → x < 2 * m + 1 → nat_abs (pos x -ℤ pos m) ≤ m
off_by x m below = omega (arith, ints, below)

pub near_one_another : (n : ℕ) → AreNearOneAnother n
near_one_another n =
    let a = one-square (nat_abs (pos (n % 7) -ℤ pos 3)) 3 (off_by (n % 7) 3 (omega arith)) in
    let b = one-square (nat_abs (pos (n % 5) -ℤ pos 2)) 2 (off_by (n % 5) 2 (omega arith)) in
    let d = one-square (nat_abs (pos (n % 4) -ℤ pos 2)) 2 (off_by (n % 4) 2 (omega arith)) in
    let e = one-square (nat_abs (pos (n % 3) -ℤ pos 1)) 1 (off_by (n % 3) 1 (omega arith)) in
    record {
      first = (omega arith, omega (arith, a));
      second = (omega arith, omega (arith, b));
      third = (omega arith, omega (arith, d));
      fourth = (omega arith, omega (arith, e));
    }

-- upper bounds on the squared magnitudes of four gains
pub record AreSmall (list : List Cpx) : Type 0 where
  pub first : square (value_at list 0) ≤ 25
  pub second : square (value_at list 1) ≤ 20
  pub third : square (value_at list 2) ≤ 13
  pub fourth : square (value_at list 3) ≤ 17

pub are_small : (n : ℕ) (list : List Cpx) → list ≡ gains_of_four n → AreSmall list
are_small n list is =
    let s = near_one_another n in
    subst AreSmall (sym is) (record { first = s.first.1; second = s.second.1; third = s.third.1; fourth = s.fourth.1 })

four_fit : (n : ℕ) → AreGainsOfFour (gains FourPorts n)
four_fit n =
    let s = near_one_another n in
    record { least = omega (arith, s.first.0); most = omega (arith, s.first.1, s.second.1, s.third.1, s.fourth.1) }

pub four_paired : (n : ℕ) → HavePairs (gains FourPorts n)
four_paired n =
    let s = near_one_another n in
    record {
      even = omega (arith, s.first.0, s.third.0, s.second.1, s.fourth.1);
      odd = omega (arith, s.second.0, s.fourth.0, s.first.1, s.third.1);
    }

pub are_gains : (carrier : Carrier) (n : ℕ) → AreGainsOf carrier (gains carrier n)
are_gains OnePort n = gain_fits n
are_gains TwoPorts n = both_fit n
are_gains LongPrefix n = gain_fits n
are_gains FourPorts n = four_fit n

-- no pair of four ports is weak
pub are_paired : (carrier : Carrier) (n : ℕ) → ArePairedBy carrier (gains carrier n)
are_paired OnePort n = tt
are_paired TwoPorts n = tt
are_paired LongPrefix n = tt
are_paired FourPorts n = four_paired n

-- a port count other than 1 and 2 is 4
pub last_count : (carrier : Carrier) (ports : ℕ) → ports ≡ ports_of carrier → (ports ≡ 1 → ⊥) → (ports ≡ 2 → ⊥) → 4 ≡ ports_of carrier
last_count OnePort ports is one two = absurd (one is)
last_count TwoPorts ports is one two = absurd (two is)
last_count LongPrefix ports is one two = absurd (one is)
last_count FourPorts ports is one two = refl

-- the error bound depends only on the port count
allowed_by_count : (a b : Carrier) (list : List Cpx) (m : ℕ) → ports_of a ≡ ports_of b → IsAllowedBy a list m → IsAllowedBy b list m
allowed_by_count a b list m =
    subst
    (λ ports. MatchBool (nat_eq ports 1) (m * m ≤ 4 * square (value_at list 0))
    (MatchBool (nat_eq ports 2) (IsAllowed (value_at list 0) (value_at list 1) m) (IsAllowedOfFour list m)))

pub bound_by_count : (a b : Carrier) (n : ℕ) (z : ℤ) → ports_of a ≡ ports_of b → IsBound a n z → IsBound b n z
bound_by_count a b n z e is = subst (λ list. IsBoundBy b list z) (ap (λ ports. gains_of_ports ports n) e) (record {
  within = allowed_by_count a b (gains a n) (nat_abs z) e is.within;
  greatest = λ m allowed. is.greatest m (allowed_by_count b a (gains a n) m (sym e) allowed);
})

-- ---- the emission with errors

-- the received emission leaves headroom for the errors
pub room_is : (e : Emission) (clean : List Sample) → clean ≡ emitted_samples e → All (λ s. IsWithin 32284 (value_of s)) clean
room_is e clean is =
    subst (λ l. All (λ s. IsWithin 32284 (value_of s)) l) (sym is)
    (values_below-All (λ s. IsWithin 32284 (value_of s)) e.samples (λ i. sample_of (emitted e i)) silence
    (λ k below. received_by-small e.carrier e.load e.cell e.timing.sfn e.timing.offset e.gains k e.gains_are))

pub with_errors_is : (errors values : ℕ → Cpx) (count : ℕ) (clean : List Sample) → clean ≡ values_below count (λ i. sample_of (values i))
    → values_below (length clean) (λ i. sample_of (plus (sample_at clean i) (errors i))) ≡ values_with count values errors
with_errors_is errors values count clean e =
    let f : ℕ → Sample = λ i. sample_of (values i) in
    let long : length clean ≡ count = ap length e ∙ values_below-length count f in
    ap (λ n. values_below n (λ i. sample_of (plus (sample_at clean i) (errors i)))) long
    ∙ values_below_same count (λ i. sample_of (plus (sample_at clean i) (errors i))) (λ i. sample_of (plus (values i) (errors i)))
    (λ k below. ap (λ (s : Sample). sample_of (plus (value_of s) (errors k))) (ap (λ l. get_or l k silence) e ∙ values_below_at f count k silence below))

-- the emission is the recipe's
pub record IsSentFor (carrier : Carrier) (n : ℕ) (e : Emission) : Type 0 where
  pub carrier_is : e.carrier ≡ carrier
  pub plan_is : e.cell ≡ plan n
  pub number_is : e.timing.sfn ≡ number n
  pub offset_is : e.timing.offset ≡ offset n
  pub count_is : e.samples ≡ sample_count n
  pub gains_are : e.gains ≡ gains carrier n
  pub load_is : e.load ≡ None

-- the samples with the errors are the recording's
pub samples_are : (carrier : Carrier) (n bound : ℕ) (e : Emission) (clean : List Sample) → IsSentFor carrier n e → clean ≡ emitted_samples e
    → values_below (length clean) (λ i. sample_of (plus (sample_at clean i) (error n bound i))) ≡ samples_by carrier n bound
unfolding samples_by
samples_are carrier n bound e clean s is =
    let errors : ℕ → Cpx = error n bound in
    with_errors_is errors (emitted e) e.samples clean is
    ∙ ap (λ c. values_with e.samples (received_by c e.load e.cell e.timing.sfn e.timing.offset e.gains) errors) s.carrier_is
    ∙ ap (λ l. values_with e.samples (received_by carrier l e.cell e.timing.sfn e.timing.offset e.gains) errors) s.load_is
    ∙ ap (λ p. values_with e.samples (received_by carrier None p e.timing.sfn e.timing.offset e.gains) errors) s.plan_is
    ∙ ap (λ x. values_with e.samples (received_by carrier None (plan n) x e.timing.offset e.gains) errors) s.number_is
    ∙ ap (λ o. values_with e.samples (received_by carrier None (plan n) (number n) o e.gains) errors) s.offset_is
    ∙ ap (λ g. values_with e.samples (received_by carrier None (plan n) (number n) (offset n) g) errors) s.gains_are
    ∙ ap (λ m. values_with m (received_by carrier None (plan n) (number n) (offset n) (gains carrier n)) errors) s.count_is

-- the samples with their bound make the recording
pub is_made : (carrier : Carrier) (n bound : ℕ) (made : MadeBy) → IsSentFor carrier n made.sent → IsBound carrier n (pos bound) → made.bound ≡ pos bound
    → made.recording ≡ samples_by carrier n bound → IsMadeBy carrier n made
is_made carrier n bound made s greatest is samples = record {
  carrier_is = s.carrier_is;
  plan_is = s.plan_is;
  number_is = s.number_is;
  offset_is = s.offset_is;
  count_is = s.count_is;
  gains_are = s.gains_are;
  load_is = s.load_is;
  bound = subst (IsBound carrier n) (sym is) greatest;
  samples_are = samples ∙ ap (λ (z : ℤ). samples_by carrier n (nat_abs z)) (sym is);
}

-- the list has the recording's length
pub is_recording : (carrier : Carrier) (n bound : ℕ) (list : List Sample) → list ≡ samples_by carrier n bound → IsRecording list
unfolding samples_by
is_recording carrier n bound list e =
    let values = received_by carrier None (plan n) (number n) (offset n) (gains carrier n) in
    let long : length list ≡ sample_count n = ap length e ∙ values_below-length (sample_count n) (λ i. sample_of (plus (values i) (error n bound i))) in
    record { least = omega (arith, long); most = omega (arith, long) }

-- ---- clean recordings

drawn-within : (bound w : ℕ) → nat_abs (drawn bound w) ≤ bound
drawn-within bound w = let below : w % (2 * bound + 1) < 2 * bound + 1 = mod-lt w (omega arith) in omega (arith, ints, below)

pub is_clean_number : EmittedIsClean → (carrier : Carrier) (n : ℕ) (bound : ℤ) → IsBound carrier n bound → IsCleanNumber carrier n (samples_by carrier n (nat_abs bound)) (nat_abs bound)
unfolding samples_by
is_clean_number law carrier n bound b =
    let eps = nat_abs bound in
    law carrier None (plan n) (number n) (offset n) (sample_count n) (gains carrier n) eps (error n eps) (omega arith) (omega arith) (are_gains carrier n) b.within
    (λ i below. record { re = drawn-within eps (word n (2 * i)); im = drawn-within eps (word n (2 * i + 1)) })

-- every recording is clean
abbrev pub NumbersAreClean : Type 0
NumbersAreClean = (carrier : Carrier) (n : ℕ) (bound : ℤ) → IsBound carrier n bound → IsCleanNumber carrier n (samples_by carrier n (nat_abs bound)) (nat_abs bound)

pub is_clean : NumbersAreClean → (n : ℕ) (made : Made) → IsMade n made → IsCleanlyMade made
is_clean law n made m =
    let eps = nat_abs made.bound in
    let t = made.sent in
    let clean = law OnePort n made.bound m.bound in
    let whole : IsClean (samples n eps) (plan n) (number n) (offset n) (gain n) eps = record {
      number = clean.number;
      samples = record { within = clean.within; range = clean.gains_are; bound = clean.bound; near = clean.near };
    } in
    subst (λ l. IsClean l t.cell t.sfn t.offset (gain_of t.gain) eps) (sym m.samples_are)
    (subst (λ p. IsClean (samples n eps) p t.sfn t.offset (gain_of t.gain) eps) (sym m.plan_is)
    (subst (λ s. IsClean (samples n eps) (plan n) s t.offset (gain_of t.gain) eps) (sym m.number_is)
    (subst (λ o. IsClean (samples n eps) (plan n) (number n) o (gain_of t.gain) eps) (sym m.offset_is)
    (subst (λ z. IsClean (samples n eps) (plan n) (number n) (offset n) z eps) (sym m.gain_is) whole))))

-- ---- a number has one recording

pub one_bound : (carrier : Carrier) (n : ℕ) (x y : ℤ) → IsBound carrier n x → IsBound carrier n y → nat_abs x ≡ nat_abs y
one_bound carrier n x y a b =
    let p = a.greatest (nat_abs y) b.within in
    let q = b.greatest (nat_abs x) a.within in
    omega (arith, ints, p, q)

-- two recordings with the same number are equal
pub one_of_number : (carrier : Carrier) (n : ℕ) (x y : ℤ) (a b : List Sample) → IsBound carrier n x → IsBound carrier n y
    → a ≡ samples_by carrier n (nat_abs x) → b ≡ samples_by carrier n (nat_abs y) → a ≡ b
one_of_number carrier n x y a b p q e f = e ∙ ap (samples_by carrier n) (one_bound carrier n x y p q) ∙ sym f

pub one_recording : (n : ℕ) (a b : Made) → IsMade n a → IsMade n b → a.recording ≡ b.recording
one_recording n a b p q = one_of_number OnePort n a.bound b.bound a.recording b.recording p.bound q.bound p.samples_are q.samples_are
