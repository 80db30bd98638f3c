-- `==` decides equality.
use Rattle.std.proofs.Common.{◌≡◌, ℕ, Bool, true, false, ◌&&◌, nat_eq, Option, Some, None, Result, Ok, Err, refl, ap, rules, tests}
use Rattle.std.specs.Bool.{Decides}
use Rattle.std.specs.Ordering.{int_eq}
use Rattle.std.specs.Option.{option_eq, unwrap_or}
use Rattle.std.specs.Result.{result_eq}
use Rattle.std.specs.Cmp.Lexicographic.{pointwise_decides}
use Rattle.std.specs.Cmp.{booleans_Decides, signed_Decides, unsigned_Decides}
use Rattle.std.proofs.lemmas.Bool.Decides.{Decides-and, Decides-like}
use Rattle.lte_types.specs.declared.plmn.Plmn.{Plmn}
use Rattle.lte_types.specs.declared.si_message.SiMessage.{SiMessage}
use Rattle.lte_types.specs.declared.sib1.Sib1.{Sib1}
use Rattle.lte_types.specs.declared.sib1_reason.Sib1Reason.{Sib1Reason}
use Rattle.lte_types.specs.Same.{same_plmn, same_message, same_fields, same_reason}

not_same : false ≡ true → ⊥
not_same e = absurd cc

module _ {A : Type 0} (test : A → A → Bool) (decides : (x y : A) → Decides (test x y) (x ≡ y)) where
  options_decide : (a b : Option A) → Decides (option_eq test a b) (a ≡ b)
  options_decide None None = (λ e. refl, λ e. refl)
  options_decide None (Some y) = (λ e. absurd (not_same e), λ e. absurd cc)
  options_decide (Some x) None = (λ e. absurd (not_same e), λ e. absurd cc)
  options_decide (Some x) (Some y) = (λ e. ap Some ((decides x y).0 e), λ e. (decides x y).1 (ap (λ o. unwrap_or o x) e))

pairs_decide : (a b : ℕ × ℕ) → Decides (nat_eq a.0 b.0 && nat_eq a.1 b.1) (a ≡ b)
pairs_decide a b =
    Decides-like _ (λ p i. (p.0 i, p.1 i)) (λ e. (ap (λ (x : ℕ × ℕ). x.0) e, ap (λ (x : ℕ × ℕ). x.1) e))
    (Decides-and _ _ (unsigned_Decides a.0 b.0) (unsigned_Decides a.1 b.1))

plmns_decide : (a b : Plmn) → Decides (same_plmn a b) (a ≡ b)
plmns_decide a b = search (rules, tests)

messages_decide : (a b : SiMessage) → Decides (same_message a b) (a ≡ b)
messages_decide a b = search (rules, tests)

reasons_decide : (a b : Sib1Reason) → Decides (same_reason a b) (a ≡ b)
reasons_decide a b = search (rules, tests)

pub fields_decide : (a b : Sib1) → Decides (same_fields a b) (a ≡ b)
fields_decide a b =
    Decides-like (same_fields a b)
    (λ p i. let x : Sib1 = record {
      plmns = p.0 i;
      tac = p.1.0 i;
      cell = p.1.1.0 i;
      barred = p.1.1.1.0 i;
      intra = p.1.1.1.1.0 i;
      csg = p.1.1.1.1.1.0 i;
      csg_identity = p.1.1.1.1.1.1.0 i;
      q_rx = p.1.1.1.1.1.1.1.0 i;
      q_offset = p.1.1.1.1.1.1.1.1.0 i;
      p_max = p.1.1.1.1.1.1.1.1.1.0 i;
      band = p.1.1.1.1.1.1.1.1.1.1.0 i;
      scheduling = p.1.1.1.1.1.1.1.1.1.1.1.0 i;
      tdd = p.1.1.1.1.1.1.1.1.1.1.1.1.0 i;
      window = p.1.1.1.1.1.1.1.1.1.1.1.1.1.0 i;
      tag = p.1.1.1.1.1.1.1.1.1.1.1.1.1.1.0 i;
      extended = p.1.1.1.1.1.1.1.1.1.1.1.1.1.1.1 i;
    } in x)
    (λ e. (
      ap (λ (x : Sib1). x.plmns) e,
      (
        ap (λ (x : Sib1). x.tac) e,
        (
          ap (λ (x : Sib1). x.cell) e,
          (
            ap (λ (x : Sib1). x.barred) e,
            (
              ap (λ (x : Sib1). x.intra) e,
              (
                ap (λ (x : Sib1). x.csg) e,
                (
                  ap (λ (x : Sib1). x.csg_identity) e,
                  (
                    ap (λ (x : Sib1). x.q_rx) e,
                    (
                      ap (λ (x : Sib1). x.q_offset) e,
                      (
                        ap (λ (x : Sib1). x.p_max) e,
                        (
                          ap (λ (x : Sib1). x.band) e,
                          (
                            ap (λ (x : Sib1). x.scheduling) e,
                            (
                              ap (λ (x : Sib1). x.tdd) e,
                              (
                                ap (λ (x : Sib1). x.window) e,
                                (
                                  ap (λ (x : Sib1). x.tag) e,
                                  ap (λ (x : Sib1). x.extended) e,
                                ),
                              ),
                            ),
                          ),
                        ),
                      ),
                    ),
                  ),
                ),
              ),
            ),
          ),
        ),
      ),
    ))
    (Decides-and _ _ (pointwise_decides plmns_decide a.plmns b.plmns)
    (Decides-and _ _ (unsigned_Decides a.tac b.tac)
    (Decides-and _ _ (unsigned_Decides a.cell b.cell)
    (Decides-and _ _ (booleans_Decides a.barred b.barred)
    (Decides-and _ _ (booleans_Decides a.intra b.intra)
    (Decides-and _ _ (booleans_Decides a.csg b.csg)
    (Decides-and _ _ (options_decide nat_eq unsigned_Decides a.csg_identity b.csg_identity)
    (Decides-and _ _ (signed_Decides a.q_rx b.q_rx)
    (Decides-and _ _ (options_decide nat_eq unsigned_Decides a.q_offset b.q_offset)
    (Decides-and _ _ (options_decide int_eq signed_Decides a.p_max b.p_max)
    (Decides-and _ _ (unsigned_Decides a.band b.band)
    (Decides-and _ _ (pointwise_decides messages_decide a.scheduling b.scheduling)
    (Decides-and _ _ (options_decide _ pairs_decide a.tdd b.tdd)
    (Decides-and _ _ (unsigned_Decides a.window b.window)
    (Decides-and _ _ (unsigned_Decides a.tag b.tag)
    (booleans_Decides a.extended b.extended))))))))))))))))

-- SIB1, or the reason why it was not decoded
abbrev Answer : Type 0
Answer = Result Sib1 Sib1Reason

pub answers_decide : (a b : Answer) → Decides (result_eq same_fields same_reason a b) (a ≡ b)
answers_decide (Ok x) (Ok y) = (λ e. ap Ok ((fields_decide x y).0 e), λ e. (fields_decide x y).1 cc)
answers_decide (Ok x) (Err y) = (λ e. absurd (not_same e), λ e. absurd cc)
answers_decide (Err x) (Ok y) = (λ e. absurd (not_same e), λ e. absurd cc)
answers_decide (Err x) (Err y) = (λ e. ap Err ((reasons_decide x y).0 e), λ e. (reasons_decide x y).1 cc)
