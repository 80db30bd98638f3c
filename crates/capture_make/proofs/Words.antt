-- The generator's outputs, one by one.
use Rattle.std.proofs.Common.{◌≡◌, ℕ, zero, suc, ◌+◌, refl, ap, sym, ◌∙◌, add-one}
use Rattle.rand_pcg.specs.Lcg.{Lcg, next_state, state_after, next, advance, started, increment_of}
use Rattle.rand_pcg.specs.Pcg.{multiplier_64, pcg32}
use Rattle.capture_make.specs.Errors.{generator}

-- a step after n steps is step n + 1
step_after : (w m increment n state : ℕ) → next_state w m increment (state_after w m increment n state) ≡ state_after w m increment (suc n) state
unfolding state_after
step_after w m increment zero state = refl
step_after w m increment (suc n) state = step_after w m increment n (next_state w m increment state)

one_more : (w m n : ℕ) (g : Lcg) → next w m (advance w m n g) ≡ advance w m (n + 1) g
one_more w m n g =
    ap (λ state. let h : Lcg = record { state = state; increment = g.increment } in h) (step_after w m g.increment n g.state)
    ∙ ap (λ k. advance w m k g) (sym (add-one n))

-- the generator's state after one more output
pub next_word : (n words : ℕ) → (pcg32 (generator n words)).1 ≡ generator n (words + 1)
next_word n words = one_more 64 multiplier_64 words (started 64 multiplier_64 n (increment_of 64 1))
