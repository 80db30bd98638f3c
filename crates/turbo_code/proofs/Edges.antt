-- The two edges into each state.
use Rattle.std.proofs.Common.{◌≡◌, ℕ, zero, suc, ◌+◌, ◌/◌, ◌<◌, Bool, true, false, cond, refl, inl, inr, ◌⊎◌, arith}
use Rattle.turbo_code.specs.Machine.{next, register, first_from, second_from, bit_to}
use Rattle.trellis.proofs.Forward.{HasEdges}

pub next_below : (x : ℕ) (b : Bool) → x < 8 → next x b < 8
next_below x b h = elim (register x b) as (λ t. x / 2 + cond t 4 0 < 8) [ true ↦ omega arith | false ↦ omega arith ]

first_there : (x : ℕ) → x < 8 → next (first_from x) (bit_to (first_from x) x) ≡ x
first_there zero h = refl
first_there (suc zero) h = refl
first_there (suc (suc zero)) h = refl
first_there (suc (suc (suc zero))) h = refl
first_there (suc (suc (suc (suc zero)))) h = refl
first_there (suc (suc (suc (suc (suc zero))))) h = refl
first_there (suc (suc (suc (suc (suc (suc zero)))))) h = refl
first_there (suc (suc (suc (suc (suc (suc (suc zero))))))) h = refl
first_there (suc (suc (suc (suc (suc (suc (suc (suc x)))))))) h = absurd (omega arith)

second_there : (x : ℕ) → x < 8 → next (second_from x) (bit_to (second_from x) x) ≡ x
second_there zero h = refl
second_there (suc zero) h = refl
second_there (suc (suc zero)) h = refl
second_there (suc (suc (suc zero))) h = refl
second_there (suc (suc (suc (suc zero)))) h = refl
second_there (suc (suc (suc (suc (suc zero))))) h = refl
second_there (suc (suc (suc (suc (suc (suc zero)))))) h = refl
second_there (suc (suc (suc (suc (suc (suc (suc zero))))))) h = refl
second_there (suc (suc (suc (suc (suc (suc (suc (suc x)))))))) h = absurd (omega arith)

only_these : (x y : ℕ) (a : Bool) → y < 8 → next y a ≡ x →
    ((y ≡ first_from x) × (a ≡ bit_to (first_from x) x)) ⊎ ((y ≡ second_from x) × (a ≡ bit_to (second_from x) x))
only_these x zero false h e = rw (← e) (inl (refl, refl))
only_these x zero true h e = rw (← e) (inl (refl, refl))
only_these x (suc zero) false h e = rw (← e) (inr (refl, refl))
only_these x (suc zero) true h e = rw (← e) (inr (refl, refl))
only_these x (suc (suc zero)) false h e = rw (← e) (inl (refl, refl))
only_these x (suc (suc zero)) true h e = rw (← e) (inl (refl, refl))
only_these x (suc (suc (suc zero))) false h e = rw (← e) (inr (refl, refl))
only_these x (suc (suc (suc zero))) true h e = rw (← e) (inr (refl, refl))
only_these x (suc (suc (suc (suc zero)))) false h e = rw (← e) (inl (refl, refl))
only_these x (suc (suc (suc (suc zero)))) true h e = rw (← e) (inl (refl, refl))
only_these x (suc (suc (suc (suc (suc zero))))) false h e = rw (← e) (inr (refl, refl))
only_these x (suc (suc (suc (suc (suc zero))))) true h e = rw (← e) (inr (refl, refl))
only_these x (suc (suc (suc (suc (suc (suc zero)))))) false h e = rw (← e) (inl (refl, refl))
only_these x (suc (suc (suc (suc (suc (suc zero)))))) true h e = rw (← e) (inl (refl, refl))
only_these x (suc (suc (suc (suc (suc (suc (suc zero))))))) false h e = rw (← e) (inr (refl, refl))
only_these x (suc (suc (suc (suc (suc (suc (suc zero))))))) true h e = rw (← e) (inr (refl, refl))
only_these x (suc (suc (suc (suc (suc (suc (suc (suc y)))))))) a h e = absurd (omega arith)

pub edges : (x : ℕ) → x < 8 → HasEdges next 8 x (first_from x) (bit_to (first_from x) x) (second_from x) (bit_to (second_from x) x)
edges x h = record {
  first_below = omega arith;
  second_below = omega arith;
  first = first_there x h;
  second = second_there x h;
  only = only_these x;
}
