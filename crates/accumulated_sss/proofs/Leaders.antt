-- The group with most matches in one half-frame, group after group.
use Rattle.std.proofs.Common.{◌≡◌, ℕ, ◌-◌, ◌<◌, ◌≤◌, Bool, true, false, nat_lt, ℤ, pos, int_lt, refl, ap, sym, subst, ◌∙◌}
use Rattle.std.specs.Prelude.{if◌then◌else◌}
use Rattle.lte_types.specs.declared.frame.Half.{Half}
use Rattle.lte_types.specs.declared.frame.Half.TheVariants.{Zero, Five}
use Rattle.sss_detect.specs.Identity.{first_greatest, best_pair}
use Rattle.sss_detect.proofs.Choices.{first_greatest_more, first_greatest-le, five_chosen, zero_chosen}
use Rattle.accumulated_sss.specs.declared.best.Leader.{Leader}
use Rattle.accumulated_sss.specs.declared.best.Pair.{Pair}

-- `leader` is the first of the groups 0 to n with most matches
pub record IsLeader (f : ℕ → ℤ) (n : ℕ) (leader : Leader) : Type 0 where
  pub group : leader.n1 ≡ first_greatest f n
  pub count : pos leader.matches ≡ f leader.n1

pub first_leader : (f : ℕ → ℤ) (count : ℕ) → pos count ≡ f 0 → IsLeader f 0 (record { n1 = 0; matches = count })
unfolding first_greatest
first_leader f count e = record { group = refl; count = e }

pub next_leader : (f : ℕ → ℤ) (n count : ℕ) (first : Leader) → 0 < n → IsLeader f (n - 1) first → pos count ≡ f n →
    IsLeader f n (if nat_lt first.matches count then record { n1 = n; matches = count } else first)
next_leader f n count first l p e = settle (nat_lt first.matches count) refl
  where
    test_same : int_lt (f (first_greatest f (n - 1))) (f n) ≡ nat_lt first.matches count
    test_same = ap (λ m. int_lt (f m) (f n)) (sym p.group) ∙ ap (λ x. int_lt x (f n)) (sym p.count) ∙ ap (int_lt (pos first.matches)) (sym e)

    settle : (b : Bool) → nat_lt first.matches count ≡ b → IsLeader f n (if b then record { n1 = n; matches = count } else first)
    settle true t = record { group = sym (first_greatest_more f n l ∙ rw (test_same ∙ t) refl); count = e }
    settle false t = record { group = p.group ∙ sym (first_greatest_more f n l ∙ rw (test_same ∙ t) refl); count = p.count }

-- the pair that `of_both` returns for two leaders
abbrev pub pair_of_both : Leader → Leader → Pair
pair_of_both a b =
    if nat_lt a.matches b.matches then record { n1 = b.n1; half = Five; matches = b.matches } else record { n1 = a.n1; half = Zero; matches = a.matches }

pub record IsChosen (scores : ℕ → Half → ℤ) (pair : Pair) : Type 0 where
  pub best : (pair.n1, pair.half) ≡ best_pair scores
  pub count : pos pair.matches ≡ scores pair.n1 pair.half
  pub group : pair.n1 ≤ 167

pub chosen_of_both : (scores : ℕ → Half → ℤ) (a b : Leader) → IsLeader (λ n1. scores n1 Zero) 167 a → IsLeader (λ n1. scores n1 Five) 167 b →
    IsChosen scores (pair_of_both a b)
chosen_of_both scores a b p q = settle (nat_lt a.matches b.matches) refl
  where
    test_same : int_lt (scores a.n1 Zero) (scores b.n1 Five) ≡ nat_lt a.matches b.matches
    test_same = ap (λ x. int_lt x (scores b.n1 Five)) (sym p.count) ∙ ap (int_lt (pos a.matches)) (sym q.count)

    settle : (t : Bool) → nat_lt a.matches b.matches ≡ t →
        IsChosen scores (if t then record { n1 = b.n1; half = Five; matches = b.matches } else record { n1 = a.n1; half = Zero; matches = a.matches })
    settle true e = record {
      best = five_chosen scores a.n1 b.n1 p.group q.group (test_same ∙ e);
      count = q.count;
      group = subst (λ n. n ≤ 167) (sym q.group) (first_greatest-le (λ n1. scores n1 Five) 167);
    }
    settle false e = record {
      best = zero_chosen scores a.n1 b.n1 p.group q.group (test_same ∙ e);
      count = p.count;
      group = subst (λ n. n ≤ 167) (sym p.group) (first_greatest-le (λ n1. scores n1 Zero) 167);
    }
