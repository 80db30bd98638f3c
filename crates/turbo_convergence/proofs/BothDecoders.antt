-- Sums with the signs of the sent coded bits give both decoders values with their bits' signs.
use Rattle.std.proofs.Common.{◌≡◌, ℕ, zero, suc, ◌+◌, ◌*◌, ◌<◌, Bool, List, length, ℤ, pos, ap, sym, subst, ◌∙◌, arith}
use Rattle.finite.specs.Tables.{sum_at}
use Rattle.finite.proofs.Lists.{values_below-length, values_below_at}
use Rattle.sub_block.specs.Items.{item}
use Rattle.turbo_code.specs.declared.rows.Row.{Row}
use Rattle.turbo_code.specs.Table.{IsAnyRow, interleaver}
use Rattle.turbo_code.specs.Encoder.{bit_at, parity, tail_x, tail_z, interleaved, coded}
use Rattle.turbo_code.specs.Streams.{bits_of_stream, tail_items, in_order}
use Rattle.turbo_code.specs.Reading.{bit_of}
use Rattle.turbo_code.proofs.Permutes.{all_permute}
use Rattle.turbo_code.proofs.CodedBits.{length-interleaved, interleaved_at, information_at, first_parity_at, second_parity_at, first_tail_at, second_tail_at, third_tail_at}
use Rattle.turbo_dec.specs.Decoder.{at, values_of}
use Rattle.erasure.specs.Known.{first_sent, second_sent, tail_sent}
use Rattle.turbo_convergence.specs.Conveys.{Conveys, AllConvey, SumsConvey}

pub length-stream : (row : Row) (sums : List (List ℤ)) (t : ℕ) → length (bits_of_stream (pos 0) row sums t) ≡ row.k
length-stream row sums t = values_below-length row.k (sum_at sums t)

pub in_order_at : (row : Row) (values : List ℤ) (i : ℕ) → i < row.k → at (in_order (pos 0) row values) i ≡ at values (interleaver row i)
unfolding in_order
in_order_at row values i inside = values_below_at (λ i. at values (interleaver row i)) row.k i (pos 0) inside

-- ---- the tails

-- the six tail bits of a word are at index p and the next
record IsTail (row : Row) (word u : List Bool) (p : ℕ) : Type 0 where
  inside : p + 1 < row.k + 4
  x0 : bit_of (coded row word) (item 0 p) ≡ tail_x u 0
  z0 : bit_of (coded row word) (item 1 p) ≡ tail_z u 0
  x1 : bit_of (coded row word) (item 2 p) ≡ tail_x u 1
  z1 : bit_of (coded row word) (item 0 (p + 1)) ≡ tail_z u 1
  x2 : bit_of (coded row word) (item 1 (p + 1)) ≡ tail_x u 2
  z2 : bit_of (coded row word) (item 2 (p + 1)) ≡ tail_z u 2

module _ (row : Row) (word : List Bool) (size : length word ≡ row.k) where
  stands : (t p j : ℕ) (bit : Bool) → p ≡ row.k + j → bit_of (coded row word) (item t (row.k + j)) ≡ bit → bit_of (coded row word) (item t p) ≡ bit
  stands t p j bit e is = ap (λ q. bit_of (coded row word) (item t q)) e ∙ is

  first_tail : IsTail row word word row.k
  first_tail = record {
    inside = omega arith;
    x0 = stands 0 row.k 0 (tail_x word 0) (omega arith) (first_tail_at row word size 0 (omega arith));
    z0 = stands 1 row.k 0 (tail_z word 0) (omega arith) (second_tail_at row word size 0 (omega arith));
    x1 = stands 2 row.k 0 (tail_x word 1) (omega arith) (third_tail_at row word size 0 (omega arith));
    z1 = first_tail_at row word size 1 (omega arith);
    x2 = second_tail_at row word size 1 (omega arith);
    z2 = third_tail_at row word size 1 (omega arith);
  }

  second_tail : IsTail row word (interleaved row word) (row.k + 2)
  second_tail = record {
    inside = omega arith;
    x0 = first_tail_at row word size 2 (omega arith);
    z0 = second_tail_at row word size 2 (omega arith);
    x1 = third_tail_at row word size 2 (omega arith);
    z1 = stands 0 (row.k + 2 + 1) 3 (tail_z (interleaved row word) 1) (omega arith) (first_tail_at row word size 3 (omega arith));
    x2 = stands 1 (row.k + 2 + 1) 3 (tail_x (interleaved row word) 2) (omega arith) (second_tail_at row word size 3 (omega arith));
    z2 = stands 2 (row.k + 2 + 1) 3 (tail_z (interleaved row word) 2) (omega arith) (third_tail_at row word size 3 (omega arith));
  }

module _ (row : Row) (word : List Bool) (sent : ℕ → ℕ → Bool) (sums : List (List ℤ)) (decoded : SumsConvey row word sent sums) where
  decoded_at : (t p : ℕ) (bit : Bool) → t < 3 → p < row.k + 4 → bit_of (coded row word) (item t p) ≡ bit → Conveys (sent t p) bit (sum_at sums t p)
  decoded_at t p bit stream inside is = subst (λ b. Conveys (sent t p) b (sum_at sums t p)) is (decoded t p stream inside)

  pub in_stream : (t k : ℕ) (bit : Bool) → t < 3 → k < row.k → bit_of (coded row word) (item t k) ≡ bit → Conveys (sent t k) bit (at (bits_of_stream (pos 0) row sums t) k)
  in_stream t k bit stream inside is =
      subst (Conveys (sent t k) bit) (sym (values_below_at (sum_at sums t) row.k k (pos 0) inside)) (decoded_at t k bit stream (omega (arith, inside)) is)

  tail_x_decoded : (u : List Bool) (p : ℕ) → IsTail row word u p → (j : ℕ) → j < 3 → Conveys (bit_at (tail_sent sent p) (2 * j)) (tail_x u j) (at (tail_items (pos 0) sums p) (2 * j))
  tail_x_decoded u p tail zero l = let m = tail.inside in decoded_at 0 p (tail_x u 0) (omega arith) (omega (arith, m)) tail.x0
  tail_x_decoded u p tail (suc zero) l = let m = tail.inside in decoded_at 2 p (tail_x u 1) (omega arith) (omega (arith, m)) tail.x1
  tail_x_decoded u p tail (suc (suc zero)) l = decoded_at 1 (p + 1) (tail_x u 2) (omega arith) tail.inside tail.x2
  tail_x_decoded u p tail (suc (suc (suc j))) l = absurd (omega (arith, l))

  tail_z_decoded : (u : List Bool) (p : ℕ) → IsTail row word u p → (j : ℕ) → j < 3 → Conveys (bit_at (tail_sent sent p) (2 * j + 1)) (tail_z u j) (at (tail_items (pos 0) sums p) (2 * j + 1))
  tail_z_decoded u p tail zero l = let m = tail.inside in decoded_at 1 p (tail_z u 0) (omega arith) (omega (arith, m)) tail.z0
  tail_z_decoded u p tail (suc zero) l = decoded_at 0 (p + 1) (tail_z u 1) (omega arith) tail.inside tail.z1
  tail_z_decoded u p tail (suc (suc zero)) l = decoded_at 2 (p + 1) (tail_z u 2) (omega arith) tail.inside tail.z2
  tail_z_decoded u p tail (suc (suc (suc j))) l = absurd (omega (arith, l))

-- ---- both decoders

module _ (row : Row) (word : List Bool) (sent : ℕ → ℕ → Bool) (sums : List (List ℤ)) (size : length word ≡ row.k) (decoded : SumsConvey row word sent sums) where
  pub first_conveys : (known : ℕ → Bool) (prior : List ℤ) → ((k : ℕ) → k < row.k → Conveys (known k) (bit_at word k) (at prior k)) →
      AllConvey word (first_sent row sent) known
      (values_of (bits_of_stream (pos 0) row sums 0) (bits_of_stream (pos 0) row sums 1) (tail_items (pos 0) sums row.k) prior)
  first_conveys known prior priors = record {
    size = length-stream row sums 0 ∙ sym size;
    systematic = λ k l. in_stream row word sent sums decoded 0 k (bit_at word k) (omega arith) (omega (arith, l, size)) (information_at row word size k (omega (arith, l, size)));
    parity = λ k l. in_stream row word sent sums decoded 1 k (parity word k) (omega arith) (omega (arith, l, size)) (first_parity_at row word size k (omega (arith, l, size)));
    tail_x = tail_x_decoded row word sent sums decoded word row.k (first_tail row word size);
    tail_z = tail_z_decoded row word sent sums decoded word row.k (first_tail row word size);
    prior = λ k l. priors k (omega (arith, l, size));
  }

  pub second_conveys : (known : ℕ → Bool) (prior : List ℤ) → IsAnyRow row → ((k : ℕ) → k < row.k → Conveys (known k) (bit_at word k) (at prior k)) →
      AllConvey (interleaved row word) (second_sent row sent) (λ i. known (interleaver row i))
      (values_of (in_order (pos 0) row (bits_of_stream (pos 0) row sums 0)) (bits_of_stream (pos 0) row sums 2) (tail_items (pos 0) sums (row.k + 2)) (in_order (pos 0) row prior))
  unfolding in_order
  second_conveys known prior is_row priors = record {
    size = values_below-length row.k (λ i. at (bits_of_stream (pos 0) row sums 0) (interleaver row i)) ∙ sym long;
    systematic = λ i l.
        let inside : i < row.k = omega (arith, l, long) in
        let there = (all_permute row is_row).below i inside in
        turned (bits_of_stream (pos 0) row sums 0) (sent 0 (interleaver row i)) i inside
        (in_stream row word sent sums decoded 0 (interleaver row i) (bit_at word (interleaver row i)) (omega arith) there (information_at row word size (interleaver row i) there));
    parity = λ i l.
        let inside : i < row.k = omega (arith, l, long) in
        in_stream row word sent sums decoded 2 i (parity (interleaved row word) i) (omega arith) inside (second_parity_at row word size i inside);
    tail_x = tail_x_decoded row word sent sums decoded (interleaved row word) (row.k + 2) (second_tail row word size);
    tail_z = tail_z_decoded row word sent sums decoded (interleaved row word) (row.k + 2) (second_tail row word size);
    prior = λ i l.
        let inside : i < row.k = omega (arith, l, long) in
        turned prior (known (interleaver row i)) i inside (priors (interleaver row i) ((all_permute row is_row).below i inside));
  }
    where
      long : length (interleaved row word) ≡ row.k
      long = length-interleaved row word

      turned : (values : List ℤ) (there : Bool) (i : ℕ) → i < row.k → Conveys there (bit_at word (interleaver row i)) (at values (interleaver row i)) →
          Conveys there (bit_at (interleaved row word) i) (at (in_order (pos 0) row values) i)
      turned values there i inside h =
          subst (λ b. Conveys there b (at (in_order (pos 0) row values) i)) (sym (interleaved_at row word i inside))
          (subst (Conveys there (bit_at word (interleaver row i))) (sym (in_order_at row values i inside)) h)
