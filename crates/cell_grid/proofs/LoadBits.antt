-- A load's bits: an additional subframe, and the symbol at a resource element.
use Rattle.std.proofs.Common.{◌≡◌, ℕ, ◌+◌, ◌-◌, ◌*◌, ◌/◌, ◌%◌, ◌<◌, ◌≤◌, inl, inr, Bool, false, List, ◌++◌, length, take, get_or, ap, ap₂, sym, ◌∙◌, arith}
use Rattle.std.proofs.lemmas.Bool.{cases_lt}
use Rattle.std.proofs.lemmas.List.{get_or-take, get_or_append_left, get_or-append_right, length-take-le}
use Rattle.finite.proofs.Lists.{values_below_at}
use Rattle.gold.specs.Gold.{gold_bit, gold_bits}
use Rattle.gold.proofs.Bits.{get_or-gold_bits}
use Rattle.cell_grid.specs.declared.antenna.Port.{Port}
use Rattle.cell_grid.specs.Load.{load_c_init}
use Rattle.cell_grid.specs.Rows.{load_bits}

-- bit n in a frame
abbrev pub bit_at : ℕ → Port → ℕ → ℕ → Bool
bit_at load port sfn n = gold_bit (load_c_init load port sfn (n / 2016)) (n % 2016)

-- bit m in a subframe
pub bit_of_subframe : (load : ℕ) (port : Port) (sfn subframe n m : ℕ) → n ≡ 2016 * subframe + m → m < 2016 →
    bit_at load port sfn n ≡ gold_bit (load_c_init load port sfn subframe) m
bit_of_subframe load port sfn subframe n m is inside =
    let quotient : n / 2016 ≡ subframe = omega (arith, is, inside) in
    let rest : n % 2016 ≡ m = omega (arith, is, inside) in
    ap₂ (λ (s k : ℕ). gold_bit (load_c_init load port sfn s) k) quotient rest

-- the bits of a frame, extended by one subframe
pub one_more : (load : ℕ) (port : Port) (sfn subframe c_init : ℕ) (old new : List Bool) → c_init ≡ load_c_init load port sfn subframe
    → 2016 * subframe ≤ length old → take (2016 * subframe + 2016) new ≡ take (2016 * subframe) old ++ gold_bits c_init 2016
    → ((n : ℕ) → n < 2016 * subframe → get_or old n false ≡ bit_at load port sfn n)
    → (n : ℕ) → n < 2016 * (subframe + 1) → get_or new n false ≡ bit_at load port sfn n
one_more load port sfn subframe c_init old new seed room written before n inside =
    let front : List Bool = take (2016 * subframe) old in
    let count : length front ≡ 2016 * subframe = length-take-le (2016 * subframe) old room in
    let read : get_or new n false ≡ get_or (front ++ gold_bits c_init 2016) n false =
    sym (get_or-take (2016 * subframe + 2016) new n false (omega (arith, inside))) ∙ ap (λ (bs : List Bool). get_or bs n false) written in
    read ∙ elim (cases_lt n (2016 * subframe)) [
      | inl early ↦ get_or_append_left front (gold_bits c_init 2016) false n (omega (arith, count, early)) ∙ get_or-take (2016 * subframe) old n false early ∙ before n early
      | inr late ↦
          let m : ℕ = n - 2016 * subframe in
          let is : n ≡ 2016 * subframe + m = omega (arith, late) in
          let few : m < 2016 = omega (arith, late, inside) in
          get_or-append_right front (gold_bits c_init 2016) (2016 * subframe) n false count late ∙ get_or-gold_bits c_init 2016 m false few
          ∙ ap (λ (s : ℕ). gold_bit s m) seed ∙ sym (bit_of_subframe load port sfn subframe n m is few)
    ]

-- a bit at a resource element in a subframe
pub bit_there : (load : ℕ) (port : Port) (sfn subframe m n : ℕ) (bits : List Bool) → bits ≡ load_bits load port sfn → subframe < 10 → m < 2016 → n ≡ 2016 * subframe + m →
    get_or bits n false ≡ gold_bit (load_c_init load port sfn subframe) m
unfolding load_bits
bit_there load port sfn subframe m n bits is inside few at =
    ap (λ (bs : List Bool). get_or bs n false) is ∙ values_below_at (bit_at load port sfn) 20160 n false (omega (arith, inside, few, at))
    ∙ bit_of_subframe load port sfn subframe n m at few
