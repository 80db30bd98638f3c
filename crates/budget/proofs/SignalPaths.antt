-- A cell's synchronisation signals over several paths: both are demodulated through the channel, and the later paths
-- are errors of the primary signal.
use Rattle.std.proofs.Common.{◌≡◌, ℕ, zero, suc, ◌+◌, ◌-◌, ◌*◌, ◌%◌, ◌^◌, ◌<◌, ◌≤◌, arith, refl, ap, ap₂, sym, subst, ◌∙◌, ℤ, pos, ◌+ℤ◌, ◌-ℤ◌, ◌*ℤ◌, List, mul-le-mul, mul-le-mul_left}
use Rattle.std.specs.Prelude.{nat_abs}
use Rattle.std.proofs.lemmas.Int.{ints}
use Rattle.finite.specs.Sums.{sum_below, total_below}
use Rattle.finite.proofs.Sums.{total_zero}
use Rattle.cs_num.specs.declared.Cpx.{Cpx}
use Rattle.cs_num.specs.declared.Sample.{Sample}
use Rattle.cs_num.specs.Complex.{nothing, plus, times, square, minus}
use Rattle.cs_num.proofs.Complex.{pair, plus-commutes}
use Rattle.norms.specs.Magnitudes.{inner, energy_below, correlation_below}
use Rattle.norms.proofs.Naturals.{root-le}
use Rattle.norms.proofs.Squares.{inner-le}
use Rattle.norms.proofs.Cauchy.{cauchy, energy_same, energy_split, energy_weighted}
use Rattle.norms.proofs.Gram.{energy_with_errors}
use Rattle.fold128.specs.Symbol.{useful_at}
use Rattle.lte_types.specs.Numerology.{symbol_step}
use Rattle.pss_search.specs.Correlation.{pss_grid, wave, wave_power}
use Rattle.pss_search.proofs.Symmetry.{power_range}
use Rattle.observe.specs.Seen.{seen}
use Rattle.budget.specs.Received.{in_parts, off_by, received_of, samples_from, IsSeenNear}
use Rattle.budget.specs.Score.{sss_grid}
use Rattle.budget.specs.Paths.{Paths, AreFaint, IsReceivedOver, turned_round, received_over, weight, channel_over}
use Rattle.budget.specs.SignalPaths.{SignalsAreThrough, SignalsOverAreThrough, PrimaryOverIsWithin}
use Rattle.budget.proofs.SeenOver.{shares, weight-least, amplitude_is_seen_over_in_recording}
use Rattle.budget.proofs.BendsOver.{channel-least}
use Rattle.budget.proofs.Scores.{pss_amplitudes, sss_amplitudes, pss_in_grid, sss_in_grid, signals_are_seen, one_gain_leaves_terms_room, one_gain_is_seen_through}

-- ---- one gain

pub signals_are_through : SignalsAreThrough
signals_are_through prefix recording t n1 n2 half both = record {
  most = 2316;
  least = 1000;
  square = square both.gain;
  channel = λ k. both.gain;
  room = one_gain_leaves_terms_room;
  through = one_gain_is_seen_through both.gain n1 n2 half (seen recording t) (seen recording (t - symbol_step prefix)) (signals_are_seen prefix recording t n1 n2 half both);
}

-- ---- several paths

pub signals_over_are_through : SignalsOverAreThrough
signals_over_are_through magnitudes paths prefix recording t n1 n2 half faint both =
    let before : ℕ = t - symbol_step prefix in
    record {
      most = 1880;
      least = 940;
      square = square paths.first;
      channel = channel_over paths;
      room = omega arith;
      through = record {
        group = both.group;
        root = both.root;
        sounds = some (square paths.first) both.primary.sounds;
        reads = λ k l. channel-least magnitudes paths faint both.primary.sounds (k + 5);
        primary = λ k l. subst (λ (z : Cpx). IsSeenNear 1880 (square paths.first) (times (channel_over paths (k + 5)) z) (seen recording t (k + 5))) (pss_in_grid n2 k l)
            (amplitude_is_seen_over_in_recording magnitudes paths (pss_grid n2) recording t (k + 5) (pss_amplitudes n2) faint both.primary (omega (arith, l)));
        secondary = λ k l. subst (λ (z : Cpx). IsSeenNear 1880 (square paths.first) (times (channel_over paths (k + 5)) z) (seen recording before (k + 5))) (sss_in_grid n1 n2 half k l)
            (amplitude_is_seen_over_in_recording magnitudes paths (sss_grid n1 n2 half) recording before (k + 5) (sss_amplitudes n1 n2 half) faint both.secondary (omega (arith, l)));
      };
    }
  where
    some : (n : ℕ) → 2 ^ 28 ≤ n → 1 ≤ n
    some n h = omega (arith, h)

-- ---- later paths as errors

-- the energy of a signal times a gain with magnitude at most s, plus one with energy at most t * t * m
energy-plus : (n : ℕ) (g : Cpx) (p e : ℕ → Cpx) (s t m : ℕ) → square g ≤ s * s → energy_below n p ≤ m → energy_below n e ≤ t * t * m →
    energy_below n (λ k. plus (times g (p k)) (e k)) ≤ (t + s) * (t + s) * m
energy-plus n g p e s t m gain power rest =
    whole (energy_below n (λ k. plus (times g (p k)) (e k))) (square g * energy_below n p) (energy_below n e) (inner g (correlation_below n e p)) (energy_with_errors n g p e) (mul-le-mul gain power) rest
    (root-le (nat_abs (inner g (correlation_below n e p))) (s * t * m)
    (crossed (nat_abs (inner g (correlation_below n e p))) (square g) (square (correlation_below n e p)) (energy_below n e) (energy_below n p) (inner-le g (correlation_below n e p)) (cauchy n e p) gain rest power))
  where
    crossed : (i a c x y : ℕ) → i * i ≤ a * c → c ≤ x * y → a ≤ s * s → x ≤ t * t * m → y ≤ m → i * i ≤ s * t * m * (s * t * m)
    crossed i a c x y h k l j o =
        let both : x * y ≤ t * t * m * m = mul-le-mul j o in
        let small : c ≤ t * t * m * m = omega (arith, k, both) in
        let all : a * c ≤ s * s * (t * t * m * m) = mul-le-mul l small in
        omega (arith, h, all)

    whole : (x y z : ℕ) (i : ℤ) → pos x ≡ pos y +ℤ pos z +ℤ pos 2 *ℤ i → y ≤ s * s * m → z ≤ t * t * m → nat_abs i ≤ s * t * m → x ≤ (t + s) * (t + s) * m
    whole x y z i e h k l =
        let most : x ≤ y + z + 2 * nat_abs i = omega (arith, ints, e) in
        omega (arith, most, h, k, l)

energy-received : (count : ℕ) (gains : ℕ → Cpx) (sent : ℕ → ℕ → Cpx) (magnitudes : ℕ → ℕ) (m : ℕ) → ((path : ℕ) → path < count → square (gains path) ≤ magnitudes path * magnitudes path) →
    ((path : ℕ) → path < count → energy_below 128 (sent path) ≤ m) →
    energy_below 128 (λ n. received_of count gains (λ path. sent path n)) ≤ total_below count magnitudes * total_below count magnitudes * m
unfolding sum_below total_below
energy-received zero gains sent magnitudes m bounded powers = none (energy_below 128 (λ n. nothing)) (total_zero 128 (λ n. square nothing) (λ k l. refl))
  where
    none : (e : ℕ) → e ≡ 0 → e ≤ 0 * 0 * m
    none e same = omega (arith, same)
energy-received (suc count) gains sent magnitudes m bounded powers =
    subst (λ (e : ℕ). e ≤ total_below (suc count) magnitudes * total_below (suc count) magnitudes * m)
    (energy_same 128 (λ n. plus (times (gains count) (sent count n)) (received_of count gains (λ path. sent path n))) (λ n. received_of (suc count) gains (λ path. sent path n))
    (λ n l. plus-commutes (times (gains count) (sent count n)) (received_of count gains (λ path. sent path n))))
    (energy-plus 128 (gains count) (sent count) (λ n. received_of count gains (λ path. sent path n)) (magnitudes count) (total_below count magnitudes) m (bounded count (omega arith)) (powers count (omega arith))
    (energy-received count gains sent magnitudes m (λ path l. bounded path (omega (arith, l))) (λ path l. powers path (omega (arith, l)))))

-- a cyclic shift keeps 128 samples' energy
energy-turned : (delay : ℕ) (part : ℕ → Cpx) → delay ≤ 128 → energy_below 128 (turned_round delay part) ≡ energy_below 128 part
energy-turned delay part few =
    ap (λ (n : ℕ). energy_below n (turned_round delay part)) whole
    ∙ energy_split delay (128 - delay) (turned_round delay part)
    ∙ ap₂ (λ (a b : ℕ). a + b)
    (energy_same delay (turned_round delay part) (λ n. part (128 - delay + n)) (λ n l. ap part (early n l)))
    (energy_same (128 - delay) (λ n. turned_round delay part (delay + n)) part (λ n l. ap part (late n l)))
    ∙ swap (energy_below delay (λ n. part (128 - delay + n))) (energy_below (128 - delay) part)
    ∙ sym (energy_split (128 - delay) delay part)
    ∙ ap (λ (n : ℕ). energy_below n part) rest
  where
    whole : 128 ≡ delay + (128 - delay)
    whole = omega (arith, few)

    rest : 128 - delay + delay ≡ 128
    rest = omega (arith, few)

    early : (n : ℕ) → n < delay → (n + (128 - delay)) % 128 ≡ 128 - delay + n
    early n l = omega (arith, few, l)

    late : (n : ℕ) → n < 128 - delay → (delay + n + (128 - delay)) % 128 ≡ n
    late n l = omega (arith, few, l)

    swap : (a b : ℕ) → a + b ≡ b + a
    swap a b = omega arith

moves : (a b l : ℤ) → a -ℤ b ≡ l +ℤ (a -ℤ (b +ℤ l))
moves a b l = omega (arith, ints)

beside_later : (a b l : Cpx) → minus a b ≡ plus l (minus a (plus b l))
beside_later a b l = pair (moves a.re b.re l.re) (moves a.im b.im l.im)

module _ (magnitudes : ℕ → ℕ) (paths : Paths) (recording : List Sample) (t n2 : ℕ) (faint : AreFaint magnitudes paths) (root : n2 ≤ 2)
    (received : IsReceivedOver 1024 paths (pss_grid n2) (samples_from recording t)) where
  part : ℕ → Cpx
  part n = useful_at (pss_grid n2) n

  power : energy_below 128 part ≤ 2001665
  unfolding part wave wave_power
  power = (power_range n2 (omega (arith, root))).1

  -- the sum received over the later paths
  later : ℕ → Cpx
  later n = received_of paths.later paths.gain (λ path. turned_round (paths.delay path) part n)

  later-small : energy_below 128 later ≤ total_below paths.later magnitudes * total_below paths.later magnitudes * 2001665
  unfolding later
  later-small =
      energy-received paths.later paths.gain (λ path. turned_round (paths.delay path) part) magnitudes 2001665 faint.bounded
      (λ path l. turned (energy_below 128 (turned_round (paths.delay path) part)) (energy_below 128 part) (energy-turned (paths.delay path) part (near (paths.delay path) (faint.near path l))) power)
    where
      near : (d : ℕ) → d ≤ 9 → d ≤ 128
      near d h = omega (arith, h)

      turned : (e w : ℕ) → e ≡ w → w ≤ 2001665 → e ≤ 2001665
      turned e w same h = omega (arith, same, h)

  errors-small : energy_below 128 (off_by (samples_from recording t) (λ n. times paths.first (part n))) ≤ 14000 * square paths.first
  unfolding later part
  errors-small =
      fits (energy_below 128 (off_by (samples_from recording t) (λ n. times paths.first (part n)))) (energy_below 128 (λ n. plus (later n) (off_by (samples_from recording t) (received_over paths part) n)))
      (energy_below 128 later) (energy_below 128 (off_by (samples_from recording t) (received_over paths part))) (total_below paths.later magnitudes)
      (total_below paths.later (λ path. weight (paths.delay path) * magnitudes path)) (square paths.first)
      (energy_same 128 (off_by (samples_from recording t) (λ n. times paths.first (part n))) (λ n. plus (later n) (off_by (samples_from recording t) (received_over paths part) n))
      (λ n l. beside_later (in_parts (samples_from recording t n)) (times paths.first (part n)) (later n)))
      (energy_weighted 2 128 later (off_by (samples_from recording t) (received_over paths part)))
      later-small received.quiet
      (shares paths.later 17 1 magnitudes (λ path. weight (paths.delay path) * magnitudes path) (λ path l. heavy (magnitudes path) (weight (paths.delay path)) (weight-least (paths.delay path)))) faint.faint
    where
      heavy : (s w : ℕ) → 17 ≤ w → 17 * s ≤ 1 * (w * s)
      heavy s w l =
          let k : s * 17 ≤ s * w = mul-le-mul_left s l in
          omega (arith, k)

      fits : (x y a b s w n : ℕ) → x ≡ y → 2 * y ≤ (2 + 1) * a + 2 * (2 + 1) * b → a ≤ s * s * 2001665 → b ≤ 1024 * n → 17 * s ≤ 1 * w → w * w ≤ n → x ≤ 14000 * n
      fits x y a b s w n same h j k l m =
          let both : 17 * s * (17 * s) ≤ 1 * w * (1 * w) = mul-le-mul l l in
          omega (arith, same, h, j, k, both, m)

pub primary_over_is_within : PrimaryOverIsWithin
unfolding part
primary_over_is_within magnitudes paths recording t n2 faint root received = record {
  gain = paths.first;
  root = root;
  received = record { sounds = received.sounds; quiet = errors-small magnitudes paths recording t n2 faint root received };
}
