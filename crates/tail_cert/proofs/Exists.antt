-- Small values have an accepted certificate with their minimum-cost word.
use Rattle.std.proofs.Common.{◌≡◌, ℕ, zero, suc, ◌-◌, ◌*◌, ◌^◌, ◌<◌, ◌≤◌, Bool, false, List, [], length, get_or, ℤ, map, refl, sym, subst, ap, ◌∙◌, inl, inr, arith}
use Rattle.std.specs.Prelude.{All, nat_lt, replicate}
use Rattle.std.proofs.lemmas.Bool.Decides.{eqb_tells}
use Rattle.std.proofs.lemmas.List.{get_or-replicate, length-replicate}
use Rattle.finite.specs.Sizes.{RowsWithin}
use Rattle.finite.specs.Lists.{values_below}
use Rattle.finite.proofs.Lists.{values_below-length, values_below_at}
use Rattle.trellis.specs.Least.{ends_in}
use Rattle.trellis.proofs.Rounds.{ends_in_same, ends_in_other}
use Rattle.conv_code.specs.Code.{parity, taps_0, taps_1, taps_2}
use Rattle.conv_code.specs.Cost.{word_cost}
use Rattle.tailbite.specs.LeastWord.{IsLeastWord}
use Rattle.tailbite.specs.Machine.{branch_cost, window_bit, forward_least, first_from, newest_bit}
use Rattle.conv_code.proofs.Costs.{triple_cost-le, word_cost-le}
use Rattle.finite.proofs.Items.{row-within}
use Rattle.tail_cert.specs.Certificate.{Held, IsWhole, IsAccepted, IsTriple, IsTable, Counted, bound, from_any}
use Rattle.tail_cert.specs.Forward.{IsFilled, IsStepRow, HasLeastRows, IsTableFrom}
use Rattle.tail_cert.specs.Stored.{IsStored, has_table, shown}
use Rattle.tail_cert.proofs.Accept.{IsStartRow, table_from}
use Rattle.tail_cert.proofs.Filled.{filled}
use Rattle.tail_cert.proofs.Rows.{start_row, later_row, rows_fit}
use Rattle.tail_cert.proofs.Shown.{stored_whole}

abbrev AreSmall : List (List ℤ) → Type 0
AreSmall values = RowsWithin 2032 values

-- no branch costs more than three values of the maximum magnitude
branch_within : (values : List (List ℤ)) → AreSmall values → (k x : ℕ) (b : Bool) → branch_cost (get_or values k []) x b ≤ 3 * 2032
branch_within values small k x b =
    triple_cost-le 2032 (get_or values k []) (parity (map (window_bit x b) taps_0)) (parity (map (window_bit x b) taps_1)) (parity (map (window_bit x b) taps_2))
    (row-within 2032 values k small)

-- the minimum costs of k steps from a start row
row_after : List (List ℤ) → List ℕ → ℕ → List ℕ
row_after values start zero = start
row_after values start (suc k) = values_below 64 (forward_least (get_or values k []) (row_after values start k))

row_is_least : (values : List (List ℤ)) (start : List ℕ) → AreSmall values → length start ≡ 64 → ((y : ℕ) → y < 64 → get_or start y 0 ≤ 2 ^ 30) →
    (k : ℕ) → IsStepRow values start k (row_after values start k)
unfolding row_after
row_is_least values start small size room zero = start_row values start size room
row_is_least values start small size room (suc k) =
    let row = row_after values start k in
    let step : ℕ → ℕ = forward_least (get_or values k []) row in
    later_row values start k row (values_below 64 step) (row_is_least values start small size room k) (values_below-length 64 step)
    (λ x below. values_below_at step 64 x 0 below)
    (λ x below.
    let branch = branch_within values small k (first_from x) (newest_bit x) in
    rw (values_below_at step 64 x 0 below) (omega (arith, branch)))

-- a start state's table
start_of : ℕ → List ℕ
start_of s = values_below 64 (ends_in (2 ^ 30) s)

table_of : List (List ℤ) → ℕ → List (List ℕ)
table_of values s = values_below 40 (λ i. row_after values (start_of s) (suc i))

is_start : (s : ℕ) → IsStartRow s (start_of s)
unfolding start_of
is_start s = record { row = λ x below. values_below_at (ends_in (2 ^ 30) s) 64 x 0 below }

start_room : (s y : ℕ) → y < 64 → get_or (start_of s) y 0 ≤ 2 ^ 30
start_room s y below = elim (eqb_tells y s) [
  | inl (t, same) ↦ let e = (is_start s).row y below ∙ ends_in_same (2 ^ 30) s y same in rw e (omega arith)
  | inr (f, other) ↦ let e = (is_start s).row y below ∙ ends_in_other (2 ^ 30) s y f in omega (arith, e)
]

start_size : (s : ℕ) → length (start_of s) ≡ 64
unfolding start_of
start_size s = values_below-length 64 (ends_in (2 ^ 30) s)

table_rows : (values : List (List ℤ)) (s : ℕ) → AreSmall values → HasLeastRows values (start_of s) (table_of values s) 40
unfolding table_of
table_rows values s small = record {
  row = λ i inside. subst (λ row. IsStepRow values (start_of s) (suc i) row) (sym (values_below_at (λ i. row_after values (start_of s) (suc i)) 40 i [] inside))
      (row_is_least values (start_of s) small (start_size s) (start_room s) (suc i));
}

table_size : (values : List (List ℤ)) (s : ℕ) → length (table_of values s) ≡ 40
unfolding table_of
table_size values s = values_below-length 40 (λ i. row_after values (start_of s) (suc i))

-- ---- the certificate for values and a word

start_of_any : List ℕ
start_of_any = replicate 64 0

general_of : List (List ℤ) → List (List ℕ)
general_of values = values_below 40 (λ i. row_after values start_of_any (suc i))

any_room : (y : ℕ) → y < 64 → get_or start_of_any y 0 ≤ 2 ^ 30
unfolding start_of_any
any_room y below = let z = get_or-replicate {A = ℕ} 64 y 0 0 below in omega (arith, z)

general_rows : (values : List (List ℤ)) → AreSmall values → HasLeastRows values start_of_any (general_of values) 40
unfolding general_of start_of_any
general_rows values small = record {
  row = λ i inside. subst (λ row. IsStepRow values start_of_any (suc i) row) (sym (values_below_at (λ i. row_after values start_of_any (suc i)) 40 i [] inside))
      (row_is_least values start_of_any small any_size any_room (suc i));
}
  where
    any_size : length start_of_any ≡ 64
    any_size = length-replicate {A = ℕ} 64 0

general_size : (values : List (List ℤ)) → length (general_of values) ≡ 40
unfolding general_of
general_size values = values_below-length 40 (λ i. row_after values start_of_any (suc i))

-- the states whose bound in the general table is below the cost, from 63 down to 0
needs : List (List ℤ) → List Bool → ℕ → Bool
needs values word s = nat_lt (bound from_any (general_of values) 40 s) (word_cost values word)

states_of : List (List ℤ) → List Bool → List Bool
states_of values word = values_below 64 (λ i. needs values word (63 - i))

needed_states : (values : List (List ℤ)) (word : List Bool) (s : ℕ) → s < 64 → has_table (states_of values word) s ≡ needs values word s
unfolding states_of
needed_states values word s below =
    let back : 63 - (63 - s) ≡ s = omega (arith, below) in
    values_below_at (λ i. needs values word (63 - i)) 64 (63 - s) false (omega arith) ∙ ap (needs values word) back

pub certificate_of : List (List ℤ) → List Bool → Held
certificate_of values word = record {
  values = values;
  word = word;
  cost = word_cost values word;
  general = general_of values;
  tables = shown (states_of values word) (values_below 64 (table_of values));
}

-- for a minimum-cost word, the certificate is whole, accepted and filled
pub record IsCertificate (values : List (List ℤ)) (word : List Bool) (c : Held) : Type 0 where
  pub whole : IsWhole c
  pub accepted : IsAccepted c
  pub filled : IsFilled c
  pub values_are : c.values ≡ values
  pub word_is : c.word ≡ word

pub least_has_certificate : (values : List (List ℤ)) (word : List Bool) → Counted 40 IsTriple values → IsLeastWord values word → IsCertificate values word (certificate_of values word)
unfolding certificate_of needs start_of_any states_of
least_has_certificate values word places least = record {
  whole = stored_whole (certificate_of values word) (states_of values word) (values_below 64 (table_of values)) stored refl;
  accepted = both.0;
  filled = both.1;
  values_are = refl;
  word_is = refl;
}
  where
    small : AreSmall values
    small k d inside = (places.all k d inside).all

    within : word_cost values word ≤ length values * (3 * 2032)
    within = word_cost-le 2032 values word small

    tables : All IsTable (values_below 64 (table_of values))
    tables s d inside =
        let below : s < 64 = omega (arith, inside, values_below-length 64 (table_of values)) in
        subst IsTable (sym (values_below_at (table_of values) 64 s d below)) (rows_fit values (start_of s) (table_of values s) (table_size values s) (table_rows values s small))

    stored : IsStored values word (word_cost values word) (general_of values) (states_of values word) (values_below 64 (table_of values))
    stored = record {
      places = places;
      bits = least.size ∙ places.count;
      fits = omega (arith, within, places.count);
      general_is = rows_fit values start_of_any (general_of values) (general_size values) (general_rows values small);
      states = values_below-length 64 (λ i. needs values word (63 - i));
      tables_are =
          let count = values_below-length 64 (table_of values) in
          record {
            each = tables;
            most = omega (arith, count);
            room = λ s below there. omega (arith, below, count);
          };
    }

    holds : (s : ℕ) → s < 64 → IsTableFrom values s (table_of values s)
    holds s below = table_from values s (start_of s) (table_of values s) below places.count (is_start s) (table_rows values s small)

    both : IsAccepted (certificate_of values word) × IsFilled (certificate_of values word)
    both = filled values values word (word_cost values word) (general_of values) (states_of values word) (values_below 64 (table_of values)) (values_below 64 (table_of values))
        refl refl small places.count least refl (general_rows values small) (λ s below. needed_states values word s below)
        (λ s below there. subst (IsTableFrom values s) (sym (values_below_at (table_of values) 64 s [] below)) (holds s below))
