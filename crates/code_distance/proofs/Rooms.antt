-- The room of a word and the shortfall of the soft values: what the room says of other words.
use Rattle.std.proofs.Common.{◌≡◌, ℕ, zero, suc, ◌+◌, ◌*◌, ◌<◌, ◌≤◌, arith, refl, ap, sym, ◌∙◌, Bool, true, false, List, [], ◌∷◌, length, length-append, get_or, ℤ, pos, negsuc, ◌+ℤ◌, ◌≤ℤ◌, ◌<ℤ◌, sum_by}
use Rattle.std.proofs.lemmas.Int.{ints}
use Rattle.std.proofs.lemmas.List.Sums.{sum_by-append}
use Rattle.finite.specs.Sums.{sum_below, total_below}
use Rattle.finite.specs.Lists.{joined_below}
use Rattle.finite.specs.Tables.{sum_at}
use Rattle.conv_code.specs.Code.{coded_bits, tapped_bit, taps_0, taps_1, taps_2}
use Rattle.conv_code.specs.Cost.{word_cost}
use Rattle.code_distance.specs.Distance.{shortfall, shortfall_at, word_shortfall, Outweigh}
use Rattle.code_distance.specs.Room.{agreement, agreements, word_agreements, IsRoom, IsOneRoom, RoomSeparatesWords, PositiveRoomOutweighs}
use Rattle.code_distance.proofs.Shortfalls.{others_cost_more}
use Rattle.code_distance.proofs.Smallest.{below, at_least, reaches, one_sum}

-- ---- the shortfall, value by value

one : (level : ℕ) (z : ℤ) (b : Bool) → below (pos level) (agreement z b) ≡ shortfall level z b
one level (pos n) false = omega arith
one level (negsuc n) false = omega arith
one level (pos zero) true = omega arith
one level (pos (suc n)) true = omega arith
one level (negsuc n) true = omega arith

three : (f : ℤ → ℕ) (x y z : ℤ) → sum_by f (x ∷ y ∷ z ∷ []) ≡ f x + f y + f z
three f x y z = omega arith

module _ (values : List (List ℤ)) (word : List Bool) where
  abbrev rows : ℕ → List ℤ
  rows k = agreements (get_or values k []) (coded_bits word k)

  long : (n : ℕ) → length (joined_below n rows) ≡ n * 3
  unfolding joined_below
  long zero = refl
  long (suc n) = let before = long n in let both = length-append (joined_below n rows) (rows n) in omega (arith, before, both)

  pub size : length (word_agreements values word) ≡ length values * 3
  unfolding word_agreements
  size = long (length values)

  at_index : (level k : ℕ) → sum_by (below (pos level)) (rows k) ≡ shortfall_at level values word k
  at_index level k =
      let h0 = one level (sum_at values k 0) (tapped_bit taps_0 word k) in
      let h1 = one level (sum_at values k 1) (tapped_bit taps_1 word k) in
      let h2 = one level (sum_at values k 2) (tapped_bit taps_2 word k) in
      let all = three (below (pos level)) (agreement (sum_at values k 0) (tapped_bit taps_0 word k)) (agreement (sum_at values k 1) (tapped_bit taps_1 word k)) (agreement (sum_at values k 2) (tapped_bit taps_2 word k)) in
      omega (arith, all, h0, h1, h2)

  up_to : (level n : ℕ) → sum_by (below (pos level)) (joined_below n rows) ≡ total_below n (shortfall_at level values word)
  unfolding joined_below total_below
  up_to level zero = refl
  up_to level (suc n) =
      let before = up_to level n in
      let here = at_index level n in
      let both = sum_by-append (below (pos level)) (joined_below n rows) (rows n) in
      omega (arith, before, here, both)

  pub short : (level : ℕ) → sum_by (below (pos level)) (word_agreements values word) ≡ word_shortfall level values word
  unfolding word_agreements word_shortfall
  short level = up_to level (length values)

-- ---- the laws

fifteen : (level : ℕ) → sum_below 15 (λ i. pos level) ≡ pos (15 * level)
unfolding sum_below
fifteen level = omega (arith, ints)

negative : (n : ℕ) (z : ℤ) (s : ℕ) → sum_below 15 (λ i. negsuc n) ≡ z +ℤ pos s → pos 0 ≤ℤ z → ⊥
unfolding sum_below
negative n z s e h = absurd (omega (arith, ints, e, h))

pub is_one_room : IsOneRoom
is_one_room values word a b many is_a is_b = let n = size values word in one_sum 15 (word_agreements values word) a b (omega arith) (omega (arith, n, many)) is_a is_b

module _ (values : List (List ℤ)) (word : List Bool) (room : ℤ) (many : 22 ≤ length values) (is : IsRoom values word room) where
  enough : 15 ≤ length (word_agreements values word)
  enough = let n = size values word in omega (arith, n, many)

  -- a room that is not negative is 15 times a level less the shortfall
  level_of : pos 0 ≤ℤ room → (level : ℕ) × (pos (15 * level) ≡ room +ℤ pos (word_shortfall level values word))
  level_of not_negative = let (level, is_sum, under) = reaches 15 (word_agreements values word) room is enough (omega arith) in settle level is_sum under
    where
      settle : (level : ℤ) → sum_below 15 (λ i. level) ≡ room +ℤ pos (sum_by (below level) (word_agreements values word)) → ((i : ℕ) → i < 15 → get_or is.sorted i (pos 0) ≤ℤ level) →
          (level : ℕ) × (pos (15 * level) ≡ room +ℤ pos (word_shortfall level values word))
      settle (pos level) is_sum under = (level, sym (fifteen level) ∙ is_sum ∙ ap (λ n. room +ℤ pos n) (short values word level))
      settle (negsuc n) is_sum under = absurd (negative n room _ is_sum not_negative)

pub room_separates_words : RoomSeparatesWords
room_separates_words values word other room many least size apart is = settle room is
  where
    settle : (room : ℤ) → IsRoom values word room → (pos (word_cost values word) +ℤ room) ≤ℤ pos (word_cost values other)
    settle (negsuc n) is = let h = least.least other size in lower _ _ n h
      where
        lower : (a b n : ℕ) → a ≤ b → (pos a +ℤ negsuc n) ≤ℤ pos b
        lower a b n h = omega (arith, ints, h)
    settle (pos n) is =
        let (level, at) = level_of values word (pos n) many is (omega (arith, ints)) in
        let h = others_cost_more values word other level many least.size size apart in
        over _ _ n level _ at h
      where
        over : (a b n level s : ℕ) → pos (15 * level) ≡ pos n +ℤ pos s → a + 15 * level ≤ b + s → (pos a +ℤ pos n) ≤ℤ pos b
        over a b n level s e h = omega (arith, ints, e, h)

pub positive_room_outweighs : PositiveRoomOutweighs
positive_room_outweighs values word room many is = (forward, back)
  where
    forward : pos 0 <ℤ room → Outweigh values word
    forward positive =
        let (level, at) = level_of values word room many is (not_negative room positive) in
        record { level = level; short = less room level _ positive at }
      where
        not_negative : (z : ℤ) → pos 0 <ℤ z → pos 0 ≤ℤ z
        not_negative z h = omega (arith, ints, h)

        less : (z : ℤ) (level s : ℕ) → pos 0 <ℤ z → pos (15 * level) ≡ z +ℤ pos s → s < 15 * level
        less z level s h e = omega (arith, ints, h, e)

    back : Outweigh values word → pos 0 <ℤ room
    back outweigh =
        let level : ℕ = outweigh.level in
        let least = at_least 15 (word_agreements values word) room is (enough values word room many is) (pos level) in
        above room level _ _ _ (fifteen level) (short values word level) least outweigh.short
      where
        above : (z : ℤ) (level : ℕ) (t : ℤ) (s s' : ℕ) → t ≡ pos (15 * level) → s ≡ s' → t ≤ℤ (z +ℤ pos s) → s' < 15 * level → pos 0 <ℤ z
        above z level t s s' e e' h l = omega (arith, ints, e, e', h, l)
