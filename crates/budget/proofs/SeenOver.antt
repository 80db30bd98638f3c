-- The demodulation of a symbol received over several paths: each path shifts the useful part cyclically, which rotates
-- the demodulated value.
use Rattle.std.proofs.Common.{◌≡◌, ℕ, zero, suc, ◌+◌, ◌-◌, ◌*◌, ◌%◌, ◌^◌, ◌<◌, ◌≤◌, arith, refl, ap, ap₂, sym, subst, ◌∙◌, inl, inr, ℤ, pos, ◌+ℤ◌, ◌-ℤ◌, ◌*ℤ◌, mul-le-mul, mul-le-mul_left, mul-le-mul_right}
use Rattle.std.specs.Prelude.{nat_abs}
use Rattle.std.proofs.lemmas.Int.{ints}
use Rattle.std.proofs.lemmas.Bool.{cases_lt}
use Rattle.std.proofs.lemmas.Bool.Decides.{nat_tests}
use Rattle.finite.specs.Sums.{sum_below, total_below}
use Rattle.finite.proofs.Ring.{var, lit, same}
use Rattle.finite.proofs.Ring as ring
use Rattle.cs_num.specs.declared.Cpx.{Cpx}
use Rattle.cs_num.specs.Complex.{nothing, plus, times, conjugate, square, minus, multiple}
use Rattle.cs_num.specs.Rounding.{rounded}
use Rattle.cs_num.specs.Sums.{complex_sum_below}
use Rattle.cs_num.proofs.Complex.{pair, square-within, plus-commutes, times-plus, times-plus_left, times-commutes}
use Rattle.cs_num.proofs.Sums.{complex_sum_below_same, complex_sum_below_split, complex_sum_below_plus}
use Rattle.norms.specs.Magnitudes.{IsBounded, energy_below, correlation_below}
use Rattle.norms.proofs.Algebra.{plus-minus, minus-plus, times-minus, times-nothing, times-associates, times-multiple, multiple-times, sum-times_right, conjugate-times, conjugate-plus, conjugate-multiple, multiple-plus, multiple_twice, sum-times, sum-multiple, sum_zero, plus-nothing_right}
use Rattle.norms.proofs.Squares.{square-multiple, square-times, square-conjugate}
use Rattle.norms.proofs.Bounded.{sized_gain, sized_plain, sized_more, bounded-plus, bounded-times, bounded-sum, bounded-sum_by}
use Rattle.norms.proofs.Products.{bounded-multiple}
use Rattle.norms.proofs.Cauchy.{energy_same, correlation_plus, correlation_times}
use Rattle.norms.proofs.Rounding.{rounded_near}
use Rattle.fold128.specs.Tables.{w_at}
use Rattle.fold128.specs.Symbol.{frequency, useful_term, useful_at}
use Rattle.fold128.specs.Spectrum.{spectrum_at}
use Rattle.fold128.proofs.Laws.{w_same}
use Rattle.fold128.proofs.EntrySizes.{w-square}
use Rattle.observe.specs.Seen.{seen}
use Rattle.budget.specs.Received.{AreAmplitudes, in_parts, off_by, received_of, samples_from}
use Rattle.budget.specs.Budget.{seen_in, sending_off}
use Rattle.budget.specs.Paths.{Paths, AreFaint, turned_round, turned_off, received_over, only_path, weight, delayed, whole_channel, channel_over, arriving, PrefixTurnsRound, ArrivingIsReceived, OnePathIsReceivedOver, TurnedPartIsSeen, TurnedSendingIsSmall, SendingOverIsSmall, AmplitudeIsSeenOver, AmplitudeIsSeenOverInRecording}
use Rattle.budget.proofs.Products.{nearly_multiplicative}
use Rattle.budget.proofs.Leakage.{tone_at}
use Rattle.budget.proofs.Causes.{sending_is_small, joined_part, three_causes}
use Rattle.budget.proofs.Parts.{multiple-swaps, minus_in_parts}
use Rattle.budget.proofs.Seen.{join, rounding_in}

-- ---- differences

flips : (x y : ℤ) → nat_abs (x -ℤ y) ≡ nat_abs (y -ℤ x)
flips x y = omega (arith, ints)

pub square-flips : (a b : Cpx) → square (minus a b) ≡ square (minus b a)
square-flips a b = ap₂ (λ (m n : ℕ). m * m + n * n) (flips a.re b.re) (flips a.im b.im)

-- ---- a cyclically shifted sum

sum_next : (h : ℕ → Cpx) → ((n : ℕ) → h (n + 128) ≡ h n) → complex_sum_below 128 (λ n. h (n + 1)) ≡ complex_sum_below 128 h
sum_next h period =
    complex_sum_below_split 127 1 (λ n. h (n + 1))
    ∙ ap₂ plus
    (complex_sum_below_same 127 (λ n. h (n + 1)) (λ n. h (1 + n)) (λ n l. ap h (let e : n + 1 ≡ 1 + n = omega arith in e)))
    (complex_sum_below_same 1 (λ n. h (127 + n + 1)) h (λ n l. ap h (let e : 127 + n + 1 ≡ n + 128 = omega arith in e) ∙ period n))
    ∙ plus-commutes (complex_sum_below 127 (λ n. h (1 + n))) (complex_sum_below 1 h) ∙ sym (complex_sum_below_split 1 127 h)

sum_from : (t : ℕ) (h : ℕ → Cpx) → ((n : ℕ) → h (n + 128) ≡ h n) → complex_sum_below 128 (λ n. h (n + t)) ≡ complex_sum_below 128 h
sum_from zero h period = complex_sum_below_same 128 (λ n. h (n + 0)) h (λ n l. ap h (let e : n + 0 ≡ n = omega arith in e))
sum_from (suc t) h period =
    complex_sum_below_same 128 (λ n. h (n + suc t)) (λ n. h (n + 1 + t)) (λ n l. ap h (let e : n + suc t ≡ n + 1 + t = omega arith in e))
    ∙ sum_next (λ n. h (n + t)) (λ n. ap h (let e : n + 128 + t ≡ n + t + 128 = omega arith in e) ∙ period (n + t))
    ∙ sum_from t h period

-- the demodulated value of shifted samples, with the delay in the phase
seen_later : (part : ℕ → Cpx) (delay k : ℕ) → delay ≤ 128 →
    correlation_below 128 (turned_round delay part) (tone_at k) ≡ complex_sum_below 128 (λ n. times (part n) (conjugate (w_at (frequency k * n + frequency k * delay))))
seen_later part delay k few = later (frequency k)
  where
    later : (f : ℕ) →
        complex_sum_below 128 (λ n. times (part ((n + (128 - delay)) % 128)) (conjugate (w_at (f * n)))) ≡ complex_sum_below 128 (λ n. times (part n) (conjugate (w_at (f * n + f * delay))))
    later f =
        complex_sum_below_same 128 (λ n. times (part ((n + (128 - delay)) % 128)) (conjugate (w_at (f * n)))) (λ n. term (n + (128 - delay)))
        (λ n l. ap (λ (w : Cpx). times (part ((n + (128 - delay)) % 128)) (conjugate w)) (w_same (f * n) (f * (n + (128 - delay)) + f * delay) (round n (128 - delay) (omega (arith, few)))))
        ∙ sum_from (128 - delay) term period
        ∙ complex_sum_below_same 128 term (λ n. times (part n) (conjugate (w_at (f * n + f * delay)))) (λ n l. ap (λ m. times (part m) (conjugate (w_at (f * n + f * delay)))) (let e : n % 128 ≡ n = omega (arith, l) in e))
      where
        term : ℕ → Cpx
        term n = times (part (n % 128)) (conjugate (w_at (f * n + f * delay)))

        round : (n t : ℕ) → t + delay ≡ 128 → (f * n) % 128 ≡ (f * (n + t) + f * delay) % 128
        round n t e =
            let whole : f * (t + delay) ≡ f * 128 = ap (λ m. f * m) e in
            omega (arith, whole)

        period : (n : ℕ) → term (n + 128) ≡ term n
        period n =
            ap₂ (λ (m : ℕ) (w : Cpx). times (part m) (conjugate w)) (let e : (n + 128) % 128 ≡ n % 128 = omega arith in e) (w_same (f * (n + 128) + f * delay) (f * n + f * delay) (omega arith))

-- ---- the cyclic prefix

pub prefix_turns_round : PrefixTurnsRound
prefix_turns_round paths part sent place n few is inside =
    ap₂ plus (ap (times paths.first) (is.useful n inside))
    (complex_sum_below_same paths.later (λ path. times (paths.gain path) (sent (place + 9 + n - paths.delay path))) (λ path. times (paths.gain path) (turned_round (paths.delay path) part n))
    (λ path l. ap (times (paths.gain path)) (late (paths.delay path) (few path l))))
  where
    late : (d : ℕ) → d ≤ 9 → sent (place + 9 + n - d) ≡ turned_round d part n
    late d least = elim (cases_lt n d) [
      | inl early ↦
          ap sent (let e : place + 9 + n - d ≡ place + (9 + n - d) = omega (arith, least, early) in e)
          ∙ is.before (9 + n - d) (omega (arith, least, early)) ∙ ap part (let e : 119 + (9 + n - d) ≡ (n + (128 - d)) % 128 = omega (arith, least, early) in e)
      | inr after ↦
          ap sent (let e : place + 9 + n - d ≡ place + 9 + (n - d) = omega (arith, after) in e)
          ∙ is.useful (n - d) (omega (arith, inside)) ∙ ap part (let e : n - d ≡ (n + (128 - d)) % 128 = omega (arith, least, after, inside) in e)
    ]

pub arriving_is_received : ArrivingIsReceived
arriving_is_received quota paths grid sent samples place few is sounds quiet = record {
  sounds = sounds;
  quiet = subst (λ (e : ℕ). e ≤ quota * square paths.first)
      (energy_same 128 (off_by samples (λ n. arriving paths sent (place + 9 + n))) (off_by samples (received_over paths (useful_at grid)))
      (λ n l. ap (minus (in_parts (samples n))) (prefix_turns_round paths (useful_at grid) sent place n few is l)))
      quiet;
}

pub one_path_is_received_over : OnePathIsReceivedOver
unfolding sum_below total_below
one_path_is_received_over quota gain grid samples received = (
  record {
    sounds = received.sounds;
    quiet = subst (λ (e : ℕ). e ≤ quota * square gain)
        (energy_same 128 (off_by samples (λ n. times gain (useful_at grid n))) (off_by samples (received_over (only_path gain) (useful_at grid)))
        (λ n l. ap (minus (in_parts (samples n))) (sym (plus-nothing_right (times gain (useful_at grid n))))))
        received.quiet;
  },
  record { late = λ path l. absurd (omega (arith, l)); near = λ path l. omega arith; bounded = λ path l. absurd (omega (arith, l)); faint = omega arith },
)

-- ---- one path

-- the samples of a useful part are small
useful-small : (grid : ℕ → Cpx) (n : ℕ) → AreAmplitudes grid → square (useful_at grid n) ≤ 2305 * 2305
unfolding useful_at
useful-small grid n small = down (square part) (square (multiple 131072 part)) (square-multiple 131072 part) (subst (λ (z : Cpx). square z ≤ 302101002 * 302101002 * 1) (plus-minus (multiple 131072 part) tones) whole.bounded)
  where
    tones : Cpx
    tones = complex_sum_below 72 (useful_term grid n)

    part : Cpx
    part = rounded (complex_sum_below 72 (useful_term grid n)) 17

    off : Cpx
    off = minus (multiple 131072 part) tones

    fits : (s : ℕ) → s ≤ 2 * (65536 * 65536) → s ≤ 92682 * 92682
    fits s h = omega (arith, h)

    whole : IsBounded (302008320 + 92682) 1 (plus tones off)
    whole =
        bounded-plus tones off 302008320 92682 1
        (bounded-sum 72 (useful_term grid n) 4194560 1 (λ k l. bounded-times (grid k) (w_at (frequency k * n)) 256 16385 1 1 (sized_plain (grid k) 256 (small k l)) (sized_plain (w_at (frequency k * n)) 16385 (w-square (frequency k * n)))))
        (sized_plain off 92682 (fits (square off) (square-within off 65536 (rounded_near tones 17 65536 (omega arith) refl refl))))

    down : (s t : ℕ) → t ≡ 131072 * 131072 * s → t ≤ 302101002 * 302101002 * 1 → s ≤ 2305 * 2305
    down s t e h = omega (arith, e, h)

-- the table's own error: a tone times the entry of a delay, less the delayed tone
entry_off : ℕ → ℕ → Cpx
entry_off a b = minus (times (w_at a) (w_at b)) (multiple 16384 (w_at (a + b)))

one_sample : (z : Cpx) (a b : ℕ) →
    plus (multiple 16384 (times z (conjugate (w_at (a + b))))) (times z (conjugate (entry_off a b))) ≡ times (conjugate (w_at b)) (times z (conjugate (w_at a)))
unfolding entry_off
one_sample z a b =
    ap (λ (x : Cpx). plus x (times z (conjugate (entry_off a b)))) (sym (times-multiple 16384 z (conjugate (w_at (a + b)))) ∙ ap (times z) (sym (conjugate-multiple 16384 (w_at (a + b)))))
    ∙ sym (times-plus z (conjugate (multiple 16384 (w_at (a + b)))) (conjugate (entry_off a b)))
    ∙ ap (times z) (sym (conjugate-plus (multiple 16384 (w_at (a + b))) (entry_off a b)) ∙ ap conjugate (plus-minus (times (w_at a) (w_at b)) (multiple 16384 (w_at (a + b)))) ∙ conjugate-times (w_at a) (w_at b))
    ∙ sym (times-associates z (conjugate (w_at a)) (conjugate (w_at b))) ∙ times-commutes (times z (conjugate (w_at a))) (conjugate (w_at b))

moved : (ℕ → Cpx) → ℕ → ℕ → Cpx
moved part delay k = complex_sum_below 128 (λ n. times (part n) (conjugate (entry_off (frequency k * n) (frequency k * delay))))

turned_is : (part : ℕ → Cpx) (delay k : ℕ) → delay ≤ 128 →
    plus (multiple 16384 (correlation_below 128 (turned_round delay part) (tone_at k))) (moved part delay k) ≡ times (delayed delay k) (correlation_below 128 part (tone_at k))
unfolding moved
turned_is part delay k few =
    ap (λ (z : Cpx). plus z (moved part delay k)) (ap (multiple 16384) (seen_later part delay k few) ∙ sym (sum-multiple 128 16384 (λ n. times (part n) (conjugate (w_at (a n + b))))))
    ∙ sym (complex_sum_below_plus 128 (λ n. multiple 16384 (times (part n) (conjugate (w_at (a n + b))))) (λ n. times (part n) (conjugate (entry_off (a n) b))))
    ∙ complex_sum_below_same 128 (λ n. plus (multiple 16384 (times (part n) (conjugate (w_at (a n + b))))) (times (part n) (conjugate (entry_off (a n) b))))
    (λ n. times (conjugate (w_at b)) (times (part n) (conjugate (w_at (a n))))) (λ n l. one_sample (part n) (a n) b)
    ∙ sum-times 128 (conjugate (w_at b)) (λ n. times (part n) (conjugate (w_at (a n))))
  where
    a : ℕ → ℕ
    a n = frequency k * n

    b : ℕ
    b = frequency k * delay

moved-small : (grid : ℕ → Cpx) (delay k : ℕ) → AreAmplitudes grid → square (moved (useful_at grid) delay k) ≤ 6549888000 * 6549888000
unfolding entry_off moved
moved-small grid delay k small = plain (square (moved (useful_at grid) delay k)) sum.bounded
  where
    entry-small : (a b : ℕ) → IsBounded 22200 1 (conjugate (entry_off a b))
    entry-small a b = sized_plain (conjugate (entry_off a b)) 22200 (subst (λ (s : ℕ). s ≤ 22200 * 22200) (sym (square-conjugate (entry_off a b))) (nearly_multiplicative a b))

    sum : IsBounded (128 * 51171000) 1 (moved (useful_at grid) delay k)
    sum =
        bounded-sum 128 (λ n. times (useful_at grid n) (conjugate (entry_off (frequency k * n) (frequency k * delay)))) 51171000 1
        (λ n l. bounded-times (useful_at grid n) (conjugate (entry_off (frequency k * n) (frequency k * delay))) 2305 22200 1 1 (sized_plain (useful_at grid n) 2305 (useful-small grid n small)) (entry-small (frequency k * n) (frequency k * delay)))

    plain : (s : ℕ) → s ≤ 128 * 51171000 * (128 * 51171000) * 1 → s ≤ 6549888000 * 6549888000
    plain s h = omega (arith, h)

pub turned_part_is_seen : TurnedPartIsSeen
unfolding spectrum_at
turned_part_is_seen grid delay k small few = fits (square (minus x y)) (square (minus y x)) (square e) (square-flips x y) (ap (λ (z : Cpx). square (minus z x)) (sym (turned_is (useful_at grid) delay k few)) ∙ ap (λ (z : Cpx). square z) (minus-plus x e)) (moved-small grid delay k small)
  where
    x : Cpx
    x = multiple 16384 (correlation_below 128 (turned_round delay (useful_at grid)) (tone_at k))

    y : Cpx
    y = times (delayed delay k) (correlation_below 128 (useful_at grid) (tone_at k))

    e : Cpx
    e = moved (useful_at grid) delay k

    fits : (s t u : ℕ) → s ≡ t → t ≡ u → u ≤ 6549888000 * 6549888000 → s ≤ (25 * 2 ^ 28) * (25 * 2 ^ 28)
    fits s t u p q h = omega (arith, p, q, h)

-- ---- the gains of all paths

-- 2^31 times the samples' unrounded demodulated value, less 2^35 times a number
apart : (ℕ → Cpx) → Cpx → ℕ → Cpx
apart sent z k = minus (multiple 2147483648 (correlation_below 128 sent (tone_at k))) (multiple 34359738368 z)

apart-plus : (s t : ℕ → Cpx) (x y : Cpx) (k : ℕ) → apart (λ n. plus (s n) (t n)) (plus x y) k ≡ plus (apart s x k) (apart t y k)
unfolding apart
apart-plus s t x y k =
    let c : Cpx = correlation_below 128 s (tone_at k) in
    let d : Cpx = correlation_below 128 t (tone_at k) in
    ap (λ (z : Cpx). minus (multiple 2147483648 z) (multiple 34359738368 (plus x y))) (correlation_plus 128 s t (tone_at k))
    ∙ pair (joined_part (pos 2147483648) (pos 34359738368) c.re d.re x.re y.re) (joined_part (pos 2147483648) (pos 34359738368) c.im d.im x.im y.im)

gain_in : (g x a : Cpx) → times g (minus (multiple 2147483648 x) (multiple 34359738368 a)) ≡ minus (multiple 2147483648 (times g x)) (multiple 34359738368 (times g a))
gain_in g x a = times-minus g (multiple 2147483648 x) (multiple 34359738368 a) ∙ ap₂ minus (times-multiple 2147483648 g x) (times-multiple 34359738368 g a)

apart-times : (g : Cpx) (sent : ℕ → Cpx) (z : Cpx) (k : ℕ) → apart (λ n. times g (sent n)) (times g z) k ≡ times g (apart sent z k)
unfolding apart
apart-times g sent z k =
    ap (λ (y : Cpx). minus (multiple 2147483648 y) (multiple 34359738368 (times g z))) (correlation_times 128 g sent (tone_at k))
    ∙ sym (gain_in g (correlation_below 128 sent (tone_at k)) z)

none_apart : minus (multiple 2147483648 nothing) (multiple 34359738368 nothing) ≡ nothing
none_apart = refl

apart-sum : (count : ℕ) (gains : ℕ → Cpx) (sent : ℕ → ℕ → Cpx) (z : ℕ → Cpx) (k : ℕ) →
    apart (λ n. received_of count gains (λ path. sent path n)) (received_of count gains z) k ≡ received_of count gains (λ path. apart (sent path) (z path) k)
unfolding sum_below apart
apart-sum zero gains sent z k =
    ap (λ (y : Cpx). minus (multiple 2147483648 y) (multiple 34359738368 nothing))
    (sum_zero 128 (λ n. times nothing (conjugate (tone_at k n))) (λ n l. times-commutes nothing (conjugate (tone_at k n)) ∙ times-nothing (conjugate (tone_at k n))))
    ∙ none_apart
apart-sum (suc count) gains sent z k =
    apart-plus (λ n. received_of count gains (λ path. sent path n)) (λ n. times (gains count) (sent count n)) (received_of count gains z) (times (gains count) (z count)) k
    ∙ ap₂ plus (apart-sum count gains sent z k) (apart-times (gains count) (sent count) (z count) k)

-- one path: the transmit error, rotated, and the table's error
moves : (p q e : ℤ) → p +ℤ e -ℤ q ≡ p -ℤ q +ℤ e
moves p q e = omega (arith, ints)

apart_by : (sent part : ℕ → Cpx) (turn a : Cpx) (k : ℕ) →
    apart sent (times turn a) k
    ≡ plus (times turn (minus (multiple 131072 (correlation_below 128 part (tone_at k))) (multiple 34359738368 a)))
    (multiple 131072 (minus (multiple 16384 (correlation_below 128 sent (tone_at k))) (times turn (correlation_below 128 part (tone_at k)))))
unfolding apart
apart_by sent part turn a k =
    ap (λ (z : Cpx). minus z (multiple 34359738368 (times turn a)))
    (sym (multiple_twice 131072 16384 x) ∙ ap (multiple 131072) (sym (plus-minus (multiple 16384 x) (times turn y))) ∙ multiple-plus 131072 (times turn y) e)
    ∙ pair (moves (multiple 131072 (times turn y)).re (multiple 34359738368 (times turn a)).re (multiple 131072 e).re)
    (moves (multiple 131072 (times turn y)).im (multiple 34359738368 (times turn a)).im (multiple 131072 e).im)
    ∙ ap (λ (z : Cpx). plus z (multiple 131072 e))
    (sym (times-minus turn (multiple 131072 y) (multiple 34359738368 a) ∙ ap₂ minus (times-multiple 131072 turn y) (times-multiple 34359738368 turn a)))
  where
    x : Cpx
    x = correlation_below 128 sent (tone_at k)

    y : Cpx
    y = correlation_below 128 part (tone_at k)

    e : Cpx
    e = minus (multiple 16384 x) (times turn y)

pub delayed-small : (delay k : ℕ) → IsBounded 16385 1 (delayed delay k)
delayed-small delay k = sized_plain (delayed delay k) 16385 (subst (λ (s : ℕ). s ≤ 16385 * 16385) (sym (square-conjugate (w_at (frequency k * delay)))) (w-square (frequency k * delay)))

-- 97 units for transmission and 25 for the table: 16384 times 123 of 2^31 in all
one_path : (grid : ℕ → Cpx) (delay k : ℕ) → AreAmplitudes grid → delay ≤ 128 → k < 72 → IsBounded 4327677766926336 1 (apart (turned_round delay (useful_at grid)) (times (delayed delay k) (grid k)) k)
unfolding spectrum_at
one_path grid delay k small few inside =
    subst (IsBounded 4327677766926336 1) (sym (apart_by (turned_round delay (useful_at grid)) (useful_at grid) (delayed delay k) (grid k) k))
    (sized_more (plus (times (delayed delay k) sending) (multiple 131072 e)) (16385 * 208305913856 + 131072 * 6710886400) 4327677766926336 1 (omega arith)
    (bounded-plus (times (delayed delay k) sending) (multiple 131072 e) (16385 * 208305913856) (131072 * 6710886400) 1
    (bounded-times (delayed delay k) sending 16385 208305913856 1 1 (delayed-small delay k) (sized_plain sending 208305913856 (sending_is_small grid k small inside)))
    (bounded-multiple 131072 e 6710886400 1 (sized_plain e 6710886400 (turned_part_is_seen grid delay k small few)))))
  where
    sending : Cpx
    sending = minus (multiple 131072 (correlation_below 128 (useful_at grid) (tone_at k))) (multiple 34359738368 (grid k))

    e : Cpx
    e = minus (multiple 16384 (correlation_below 128 (turned_round delay (useful_at grid)) (tone_at k))) (times (delayed delay k) (correlation_below 128 (useful_at grid) (tone_at k)))

pub turned_sending_is_small : TurnedSendingIsSmall
unfolding spectrum_at apart
turned_sending_is_small grid delay k small few inside = plain (square (turned_off (turned_round delay (useful_at grid)) (times (delayed delay k) (grid k)) k)) (one_path grid delay k small few inside).bounded
  where
    plain : (s : ℕ) → s ≤ 4327677766926336 * 4327677766926336 * 1 → s ≤ (123 * 2 ^ 45) * (123 * 2 ^ 45)
    plain s h = omega (arith, h)

-- ---- sums of magnitudes

pub shares : (n a b : ℕ) (f g : ℕ → ℕ) → ((i : ℕ) → i < n → a * f i ≤ b * g i) → a * total_below n f ≤ b * total_below n g
unfolding total_below
shares zero a b f g each = omega arith
shares (suc n) a b f g each =
    let before = shares n a b f g (λ i l. each i (omega (arith, l))) in
    let here = each n (omega arith) in
    omega (arith, before, here)

pub weight-least : (delay : ℕ) → 17 ≤ weight delay
weight-least delay = grind (arith, nat_tests)

-- a sum in which each later path counts b times its magnitude is at most c times the first gain's magnitude
pub among : (magnitudes : ℕ → ℕ) (paths : Paths) (b c : ℕ) (z : Cpx) → AreFaint magnitudes paths → b ≤ 17 * c → IsBounded (total_below paths.later (λ path. magnitudes path * b)) 1 z → IsBounded c (square paths.first) z
among magnitudes paths b c z faint few is = record {
  bounded = down (total_below paths.later (λ path. magnitudes path * b)) (total_below paths.later (λ path. weight (paths.delay path) * magnitudes path)) (square paths.first) (square z)
      (shares paths.later 17 b (λ path. magnitudes path * b) (λ path. weight (paths.delay path) * magnitudes path) (λ path l. one (magnitudes path) (weight (paths.delay path)) (weight-least (paths.delay path))))
      faint.faint is.bounded;
}
  where
    one : (s w : ℕ) → 17 ≤ w → 17 * (s * b) ≤ b * (w * s)
    one s w l =
        let k : 17 * (s * b) ≤ w * (s * b) = mul-le-mul_right (s * b) l in
        omega (arith, k)

    down : (t s n x : ℕ) → 17 * t ≤ b * s → s * s ≤ n → x ≤ t * t * 1 → x ≤ c * c * n
    down t s n x l m h =
        let one : 17 * t * (17 * t) ≤ b * s * (b * s) = mul-le-mul l l in
        let two : b * b * (s * s) ≤ b * b * n = mul-le-mul_left (b * b) m in
        let three : b * b ≤ 17 * c * (17 * c) = mul-le-mul few few in
        let four : b * b * n ≤ 17 * c * (17 * c) * n = mul-le-mul_right n three in
        omega (arith, one, two, four, h)

pub over_paths : (magnitudes : ℕ → ℕ) (paths : Paths) (b c : ℕ) (f : ℕ → Cpx) → AreFaint magnitudes paths → b ≤ 17 * c → ((path : ℕ) → path < paths.later → IsBounded b 1 (f path)) →
    IsBounded c (square paths.first) (received_of paths.later paths.gain f)
over_paths magnitudes paths b c f faint few each =
    among magnitudes paths b c (received_of paths.later paths.gain f) faint few
    (bounded-sum_by paths.later (λ path. times (paths.gain path) (f path)) (λ path. magnitudes path * b) 1
    (λ path l. bounded-times (paths.gain path) (f path) (magnitudes path) b 1 1 (sized_plain (paths.gain path) (magnitudes path) (faint.bounded path l)) (each path l)))

-- ---- the channel

-- the rounding error of 16384 times the channel
pub channel_rest : Paths → ℕ → Cpx
channel_rest paths k = minus (multiple 16384 (channel_over paths k)) (whole_channel paths k)

pub channel-rest_small : (paths : Paths) (k : ℕ) → square (channel_rest paths k) ≤ 134217728
unfolding channel_rest channel_over
channel-rest_small paths k = square-within (minus (multiple 16384 (rounded (whole_channel paths k) 14)) (whole_channel paths k)) 8192 (rounded_near (whole_channel paths k) 14 8192 (omega arith) refl refl)

pub channel_whole : (paths : Paths) (k : ℕ) → multiple 16384 (channel_over paths k) ≡ plus (whole_channel paths k) (channel_rest paths k)
unfolding channel_rest
channel_whole paths k = sym (plus-minus (multiple 16384 (channel_over paths k)) (whole_channel paths k))

-- ---- all paths together

-- the first path alone: 16384 times the transmit error
first_apart : (sent : ℕ → Cpx) (a : Cpx) (k : ℕ) →
    apart sent (multiple 16384 a) k ≡ multiple 16384 (minus (multiple 131072 (correlation_below 128 sent (tone_at k))) (multiple 34359738368 a))
unfolding apart
first_apart sent a k =
    ap₂ minus (sym (multiple_twice 16384 131072 (correlation_below 128 sent (tone_at k)))) (multiple-swaps 34359738368 16384 a)
    ∙ minus_in_parts (multiple 131072 (correlation_below 128 sent (tone_at k))) (multiple 34359738368 a)

less_part : (n x p q : ℤ) → x -ℤ n *ℤ (p +ℤ q) ≡ x -ℤ n *ℤ p +ℤ (pos 0 -ℤ n *ℤ q)
less_part n x p q =
    let m = var n in
    let a = var x in
    let b = var p in
    let c = var q in
    same (ring.minus a (ring.times m (ring.plus b c))) (ring.plus (ring.minus a (ring.times m b)) (ring.minus (lit 0) (ring.times m c))) (omega arith)

apart_less : (sent : ℕ → Cpx) (p q : Cpx) (k : ℕ) → apart sent (plus p q) k ≡ plus (apart sent p k) (minus nothing (multiple 34359738368 q))
unfolding apart
apart_less sent p q k =
    pair (less_part (pos 34359738368) (multiple 2147483648 (correlation_below 128 sent (tone_at k))).re p.re q.re)
    (less_part (pos 34359738368) (multiple 2147483648 (correlation_below 128 sent (tone_at k))).im p.im q.im)

pub square-negated : (z : Cpx) → square (minus nothing z) ≡ square z
square-negated z = ap₂ (λ (m n : ℕ). m * m + n * n) (negates z.re) (negates z.im)
  where
    negates : (x : ℤ) → nat_abs (pos 0 -ℤ x) ≡ nat_abs x
    negates x = omega (arith, ints)

module _ (magnitudes : ℕ → ℕ) (paths : Paths) (grid : ℕ → Cpx) (k : ℕ) (small : AreAmplitudes grid) (faint : AreFaint magnitudes paths) (sounds : 2 ^ 28 ≤ square paths.first) (inside : k < 72) where
  one_sent : ℕ → Cpx
  one_sent path = apart (turned_round (paths.delay path) (useful_at grid)) (times (delayed (paths.delay path) k) (grid k)) k

  sending : Cpx
  sending = minus (multiple 131072 (correlation_below 128 (useful_at grid) (tone_at k))) (multiple 34359738368 (grid k))

  amplitudes : times (whole_channel paths k) (grid k)
      ≡ plus (times paths.first (multiple 16384 (grid k))) (received_of paths.later paths.gain (λ path. times (delayed (paths.delay path) k) (grid k)))
  amplitudes =
      times-plus_left (multiple 16384 paths.first) (received_of paths.later paths.gain (λ path. delayed (paths.delay path) k)) (grid k)
      ∙ ap₂ plus (multiple-times 16384 paths.first (grid k) ∙ sym (times-multiple 16384 paths.first (grid k)))
      (sym (sum-times_right paths.later (λ path. times (paths.gain path) (delayed (paths.delay path) k)) (grid k))
      ∙ complex_sum_below_same paths.later (λ path. times (times (paths.gain path) (delayed (paths.delay path) k)) (grid k)) (λ path. times (paths.gain path) (times (delayed (paths.delay path) k) (grid k)))
      (λ path l. times-associates (paths.gain path) (delayed (paths.delay path) k) (grid k)))

  all_apart : apart (received_over paths (useful_at grid)) (times (whole_channel paths k) (grid k)) k ≡ plus (times paths.first (multiple 16384 sending)) (received_of paths.later paths.gain one_sent)
  unfolding one_sent sending
  all_apart =
      ap (λ (z : Cpx). apart (received_over paths (useful_at grid)) z k) amplitudes
      ∙ apart-plus (λ n. times paths.first (useful_at grid n)) (λ n. received_of paths.later paths.gain (λ path. turned_round (paths.delay path) (useful_at grid) n))
      (times paths.first (multiple 16384 (grid k))) (received_of paths.later paths.gain (λ path. times (delayed (paths.delay path) k) (grid k))) k
      ∙ ap₂ plus (apart-times paths.first (useful_at grid) (multiple 16384 (grid k)) k ∙ ap (times paths.first) (first_apart (useful_at grid) (grid k) k))
      (apart-sum paths.later paths.gain (λ path. turned_round (paths.delay path) (useful_at grid)) (λ path. times (delayed (paths.delay path) k) (grid k)) k)

  rest : Cpx
  rest = minus nothing (multiple 34359738368 (times (channel_rest paths k) (grid k)))

  over_apart : multiple 16384 (minus (multiple 131072 (correlation_below 128 (received_over paths (useful_at grid)) (tone_at k))) (multiple 34359738368 (times (channel_over paths k) (grid k))))
      ≡ plus (plus (times paths.first (multiple 16384 sending)) (received_of paths.later paths.gain one_sent)) rest
  unfolding rest
  over_apart =
      sym (first_apart (received_over paths (useful_at grid)) (times (channel_over paths k) (grid k)) k)
      ∙ ap (λ (z : Cpx). apart (received_over paths (useful_at grid)) z k)
      (sym (multiple-times 16384 (channel_over paths k) (grid k)) ∙ ap (λ (z : Cpx). times z (grid k)) (channel_whole paths k) ∙ times-plus_left (whole_channel paths k) (channel_rest paths k) (grid k))
      ∙ apart_less (received_over paths (useful_at grid)) (times (whole_channel paths k) (grid k)) (times (channel_rest paths k) (grid k)) k
      ∙ ap (λ (z : Cpx). plus z (minus nothing (multiple 34359738368 (times (channel_rest paths k) (grid k))))) all_apart

  first-bounded : IsBounded 3412884092616704 (square paths.first) (times paths.first (multiple 16384 sending))
  unfolding sending spectrum_at
  first-bounded =
      subst (λ (n : ℕ). IsBounded 3412884092616704 n (times paths.first (multiple 16384 sending))) (let e : square paths.first * 1 ≡ square paths.first = times-one (square paths.first) in e)
      (bounded-times paths.first (multiple 16384 sending) 1 3412884092616704 (square paths.first) 1 (sized_gain paths.first)
      (bounded-multiple 16384 sending 208305913856 1 (sized_plain sending 208305913856 (sending_is_small grid k small inside))))
    where
      times-one : (n : ℕ) → n * 1 ≡ n
      times-one n = omega arith

  later-bounded : IsBounded 281474976710656 (square paths.first) (received_of paths.later paths.gain one_sent)
  unfolding one_sent
  later-bounded =
      over_paths magnitudes paths 4327677766926336 281474976710656 (λ path. apart (turned_round (paths.delay path) (useful_at grid)) (times (delayed (paths.delay path) k) (grid k)) k) faint (omega arith)
      (λ path l. one_path grid (paths.delay path) k small (few (paths.delay path) (faint.near path l)) inside)
    where
      few : (d : ℕ) → d ≤ 9 → d ≤ 128
      few d h = omega (arith, h)

  rest-bounded : IsBounded 35184372088832 (square paths.first) rest
  unfolding rest
  rest-bounded = record {
    bounded = fits (square (minus nothing (multiple 34359738368 t))) (square (multiple 34359738368 t)) (square t) (square (channel_rest paths k)) (square (grid k)) (square paths.first)
        (square-negated (multiple 34359738368 t)) (square-multiple 34359738368 t) (square-times (channel_rest paths k) (grid k)) (channel-rest_small paths k) (small k inside) sounds;
  }
    where
      t : Cpx
      t = times (channel_rest paths k) (grid k)

      fits : (s u v r a n : ℕ) → s ≡ u → u ≡ 34359738368 * 34359738368 * v → v ≡ r * a → r ≤ 134217728 → a ≤ 256 * 256 → 2 ^ 28 ≤ n → s ≤ 35184372088832 * 35184372088832 * n
      fits s u v r a n e f g h i j =
          let k : r * a ≤ 134217728 * (256 * 256) = mul-le-mul h i in
          omega (arith, e, f, g, k, j)

  over-small : square (minus (multiple 131072 (correlation_below 128 (received_over paths (useful_at grid)) (tone_at k))) (multiple 34359738368 (times (channel_over paths k) (grid k))))
      ≤ (106 * 2 ^ 31) * (106 * 2 ^ 31) * square paths.first
  over-small =
      down (square s) (square (multiple 16384 s)) (square (plus (plus a b) rest)) (square paths.first) (square-multiple 16384 s) (ap (λ (z : Cpx). square z) over_apart)
      (bounded-plus (plus a b) rest 3694359069327360 35184372088832 (square paths.first) (bounded-plus a b 3412884092616704 281474976710656 (square paths.first) first-bounded later-bounded) rest-bounded).bounded
    where
      s : Cpx
      s = minus (multiple 131072 (correlation_below 128 (received_over paths (useful_at grid)) (tone_at k))) (multiple 34359738368 (times (channel_over paths k) (grid k)))

      a : Cpx
      a = times paths.first (multiple 16384 sending)

      b : Cpx
      b = received_of paths.later paths.gain one_sent

      down : (s t u n : ℕ) → t ≡ 16384 * 16384 * s → t ≡ u → u ≤ (3694359069327360 + 35184372088832) * (3694359069327360 + 35184372088832) * n → s ≤ (106 * 2 ^ 31) * (106 * 2 ^ 31) * n
      down s t u n e f h = omega (arith, e, f, h)

pub sending_over_is_small : SendingOverIsSmall
unfolding spectrum_at
sending_over_is_small magnitudes paths grid k small faint sounds inside = over-small magnitudes paths grid k small faint sounds inside

-- ---- the demodulated value: 106 units for transmission, 363 for the errors and 1 for rounding

pub amplitude_is_seen_over : AmplitudeIsSeenOver
amplitude_is_seen_over magnitudes paths grid samples k small faint received inside =
    let n : ℕ = square paths.first in
    let h : Cpx = times (channel_over paths k) (grid k) in
    let sent : ℕ → Cpx = received_over paths (useful_at grid) in
    let causes = three_causes sent samples h k in
    let d : Cpx = minus (in_parts (seen_in samples k)) (multiple 64 h) in
    record {
      off = join 106 363 1 n d (sending_off sent h k) causes.errors causes.rounding causes.whole
          (record { bounded = sending_over_is_small magnitudes paths grid k small faint received.sounds inside })
          (record { bounded = errors n (energy_below 128 (off_by samples sent)) (square causes.errors) received.quiet causes.errors_small })
          (record { bounded = rounding_in n (square causes.rounding) received.sounds causes.rounding_small });
    }
  where
    errors : (n e s : ℕ) → e ≤ 1024 * n → s ≤ 2 ^ 41 * e * (16385 * 16385) → s ≤ (363 * 2 ^ 31) * (363 * 2 ^ 31) * n
    errors n e s quiet h = omega (arith, quiet, h)

pub amplitude_is_seen_over_in_recording : AmplitudeIsSeenOverInRecording
unfolding seen
amplitude_is_seen_over_in_recording magnitudes paths grid recording start k small faint received inside = amplitude_is_seen_over magnitudes paths grid (samples_from recording start) k small faint received inside
