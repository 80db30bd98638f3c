-- Decoded fields are in range.
use Rattle.std.proofs.Common.{◌≡◌, ℕ, zero, suc, ◌+◌, ◌≤◌, pos, ◌-ℤ◌, Bool, true, false, cond, nat_eq, ◌∷◌, refl, ◌∙◌, arith}
use Rattle.std.specs.Prelude.{IsSome}
use Rattle.std.proofs.lemmas.List.Elements.{All-from_recursion}
use Rattle.lte_types.specs.Ranges.{AreDigits, HasDigits, IsValidPlmn, ArePlmns, IsValidMessage, AreMessages, IsGroup, IsLevel, IsLevelOffset, IsPower, IsTddConfig, IsAccess, IsSelection, IsValid}
use Rattle.lte_types.specs.declared.mnc.Mnc.{Mnc}
use Rattle.lte_types.specs.declared.mnc.Mnc.TheVariants.{Two, Three}
use Rattle.lte_types.specs.declared.plmn.Plmn.{Plmn}
use Rattle.uper.specs.Grammar.{Grammar, done, ◌>>=◌, from_to}
use Rattle.uper.specs.Grammar.{flag, if_present, times}
use Rattle.sib1.specs.Layout.{digit, mnc, plmn_identity_info, plmn_identity_list, cell_access_related_info, q_rx_lev_min_offset, cell_selection_info, p_max, sib_type, si_periodicity, scheduling_info, scheduling_info_list, tdd_config, si_window_length, sib1}
use Rattle.uper.proofs.Laws.{Holds, holds_done, holds_bind, within, present_is, present_holds, length_is, each_holds, all_hold}

below : (width least greatest : ℕ) → Holds (from_to width least greatest) (λ n. n ≤ greatest)
below width least greatest bits n s = (within width least greatest bits n s).below

digits_hold : (n : ℕ) → Holds (times n digit) AreDigits
digits_hold n = all_hold n digit (λ d. d ≤ 9) (below 4 0 9)

abbrev mnc_of : Bool → Grammar Mnc
mnc_of long = cond long (times 3 digit >>= (λ digits. done (Three digits))) (times 2 digit >>= (λ digits. done (Two digits)))

mnc_of_holds : (long : Bool) → Holds (mnc_of long) HasDigits
mnc_of_holds true = holds_bind (times 3 digit) (λ digits. done (Three digits)) HasDigits (λ v s h. holds_done (Three v) HasDigits (digits_hold 3 s v h))
mnc_of_holds false = holds_bind (times 2 digit) (λ digits. done (Two digits)) HasDigits (λ v s h. holds_done (Two v) HasDigits (digits_hold 2 s v h))

mnc_holds : Holds mnc HasDigits
unfolding mnc
mnc_holds = holds_bind flag mnc_of HasDigits (λ v s h. mnc_of_holds v)

plmn_holds : (least : ℕ) → Holds (plmn_identity_info least) IsValidPlmn
unfolding plmn_identity_info
plmn_holds least =
    holds_bind (from_to 1 least 1) _ IsValidPlmn (λ v0 s0 h0. holds_bind (if_present (nat_eq v0 1) (times 3 digit)) _ IsValidPlmn (λ v1 s1 h1. holds_bind mnc _ IsValidPlmn (λ v2 s2 h2. holds_bind flag _ IsValidPlmn (λ v3 s3 h3.
    holds_done _ IsValidPlmn (record { mcc = present_holds (nat_eq v0 1) (times 3 digit) AreDigits (digits_hold 3) s1 v1 h1; mnc = mnc_holds s2 v2 h2 })))))

one_is_one : (n : ℕ) → 1 ≤ n → n ≤ 1 → nat_eq n 1 ≡ true
one_is_one zero l g = absurd (omega (arith, l))
one_is_one (suc zero) l g = refl
one_is_one (suc (suc n)) l g = absurd (omega (arith, g))

abbrev HasMcc : Plmn → Type 0
HasMcc p = IsSome p.mcc

first_holds : Holds (plmn_identity_info 1) HasMcc
unfolding plmn_identity_info
first_holds =
    holds_bind (from_to 1 1 1) _ HasMcc (λ v0 s0 h0. holds_bind (if_present (nat_eq v0 1) (times 3 digit)) _ HasMcc (λ v1 s1 h1. holds_bind mnc _ HasMcc (λ v2 s2 h2. holds_bind flag _ HasMcc (λ v3 s3 h3.
    holds_done _ HasMcc (present_is (nat_eq v0 1) (times 3 digit) s1 v1 h1 ∙ one_is_one v0 (within 1 1 1 s0 v0 h0).above (within 1 1 1 s0 v0 h0).below)))))

plmns_hold : Holds plmn_identity_list ArePlmns
unfolding plmn_identity_list
plmns_hold =
    holds_bind (from_to 3 0 5) _ ArePlmns (λ v0 s0 h0. holds_bind (plmn_identity_info 1) _ ArePlmns (λ v1 s1 h1. holds_bind (times v0 (plmn_identity_info 0)) _ ArePlmns (λ v2 s2 h2.
    holds_done (v1 ∷ v2) ArePlmns (let size = length_is v0 (plmn_identity_info 0) s2 v2 h2 in let count = (within 3 0 5 s0 v0 h0).below in record {
      count = (omega arith, omega (arith, size, count));
      valid = All-from_recursion IsValidPlmn (v1 ∷ v2) (plmn_holds 1 s1 v1 h1, each_holds v0 (plmn_identity_info 0) IsValidPlmn (plmn_holds 0) s2 v2 h2);
      first_mcc = first_holds s1 v1 h1;
    }))))

csg_holds : Holds (from_to 27 0 134217727) IsGroup
csg_holds bits n s = let g = (within 27 0 134217727 bits n s).below in omega (arith, g)

access_holds : Holds cell_access_related_info IsAccess
unfolding cell_access_related_info
access_holds =
    holds_bind flag _ IsAccess (λ v0 s0 h0. holds_bind plmn_identity_list _ IsAccess (λ v1 s1 h1. holds_bind (from_to 16 0 65535) _ IsAccess (λ v2 s2 h2. holds_bind (from_to 28 0 268435455) _ IsAccess (λ v3 s3 h3.
    holds_bind flag _ IsAccess (λ v4 s4 h4. holds_bind flag _ IsAccess (λ v5 s5 h5. holds_bind flag _ IsAccess (λ v6 s6 h6. holds_bind (if_present v0 (from_to 27 0 134217727)) _ IsAccess (λ v7 s7 h7.
    holds_done _ IsAccess (record {
      plmns = plmns_hold s1 v1 h1;
      cell = let g = (within 28 0 268435455 s3 v3 h3).below in omega (arith, g);
      csg_identity = present_holds v0 (from_to 27 0 134217727) IsGroup csg_holds s7 v7 h7;
    })))))))))

offset_holds : Holds q_rx_lev_min_offset IsLevelOffset
unfolding q_rx_lev_min_offset
offset_holds = holds_bind (from_to 3 0 7) _ IsLevelOffset (λ v s h. holds_done (v + 1) IsLevelOffset (omega arith, let g = (within 3 0 7 s v h).below in omega (arith, g)))

level_is : (n : ℕ) → n ≤ 48 → IsLevel (pos n -ℤ pos 70)
level_is n l = (grind (arith, l), grind (arith, l))

power_is : (n : ℕ) → n ≤ 63 → IsPower (pos n -ℤ pos 30)
power_is n l = (grind (arith, l), grind (arith, l))

selection_holds : Holds cell_selection_info IsSelection
unfolding cell_selection_info
selection_holds =
    holds_bind flag _ IsSelection (λ v0 s0 h0. holds_bind (from_to 6 0 48) _ IsSelection (λ v1 s1 h1. holds_bind (if_present v0 q_rx_lev_min_offset) _ IsSelection (λ v2 s2 h2.
    holds_done _ IsSelection (record { q_rx = level_is v1 (within 6 0 48 s1 v1 h1).below; q_offset = present_holds v0 q_rx_lev_min_offset IsLevelOffset offset_holds s2 v2 h2 }))))

power_holds : Holds p_max IsPower
unfolding p_max
power_holds = holds_bind (from_to 6 0 63) _ IsPower (λ v s h. holds_done (pos v -ℤ pos 30) IsPower (power_is v (within 6 0 63 s v h).below))

abbrev IsCode : ℕ → Type 0
IsCode n = n ≤ 79

abbrev sib_of : Bool → Grammar ℕ
sib_of extension = cond extension (from_to 1 0 0 >>= (λ long. from_to 6 0 63 >>= (λ n. done (n + 16)))) (from_to 4 0 15)

sib_of_holds : (extension : Bool) → Holds (sib_of extension) IsCode
sib_of_holds true = holds_bind (from_to 1 0 0) _ IsCode (λ v s h. holds_bind (from_to 6 0 63) _ IsCode (λ w r g. holds_done (w + 16) IsCode (let k = (within 6 0 63 r w g).below in omega (arith, k))))
sib_of_holds false = λ bits n s. let k = (within 4 0 15 bits n s).below in omega (arith, k)

sib_holds : Holds sib_type IsCode
unfolding sib_type
sib_holds = holds_bind flag sib_of IsCode (λ v s h. sib_of_holds v)

message_holds : Holds scheduling_info IsValidMessage
unfolding scheduling_info
message_holds =
    holds_bind si_periodicity _ IsValidMessage (λ v0 s0 h0. holds_bind (from_to 5 0 31) _ IsValidMessage (λ v1 s1 h1. holds_bind (times v1 sib_type) _ IsValidMessage (λ v2 s2 h2.
    holds_done _ IsValidMessage (record { period = (within 3 0 6 s0 v0 h0).below; sibs = all_hold v1 sib_type IsCode sib_holds s2 v2 h2 }))))

schedule_holds : Holds scheduling_info_list AreMessages
unfolding scheduling_info_list
schedule_holds =
    holds_bind (from_to 5 0 31) (λ n. times (n + 1) scheduling_info) AreMessages (λ v s h bits list g. let size = length_is (v + 1) scheduling_info bits list g in let count = (within 5 0 31 s v h).below in record {
      count = (omega (arith, size), omega (arith, size, count));
      valid = all_hold (v + 1) scheduling_info IsValidMessage message_holds bits list g;
    })

tdd_holds : Holds tdd_config IsTddConfig
unfolding tdd_config
tdd_holds = holds_bind (from_to 3 0 6) _ IsTddConfig (λ v s h. holds_bind (from_to 4 0 8) _ IsTddConfig (λ w r g. holds_done (v, w) IsTddConfig ((within 3 0 6 s v h).below, (within 4 0 8 r w g).below)))

pub sib1_holds : Holds sib1 IsValid
unfolding sib1
sib1_holds =
    holds_bind (from_to 1 0 0) _ IsValid (λ v0 s0 h0. holds_bind (from_to 1 1 1) _ IsValid (λ v1 s1 h1. holds_bind flag _ IsValid (λ v2 s2 h2. holds_bind flag _ IsValid (λ v3 s3 h3. holds_bind flag _ IsValid (λ v4 s4 h4.
    holds_bind cell_access_related_info _ IsValid (λ v5 s5 h5. holds_bind cell_selection_info _ IsValid (λ v6 s6 h6. holds_bind (if_present v2 p_max) _ IsValid (λ v7 s7 h7. holds_bind (from_to 6 0 63) _ IsValid (λ v8 s8 h8.
    holds_bind scheduling_info_list _ IsValid (λ v9 s9 h9. holds_bind (if_present v3 tdd_config) _ IsValid (λ v10 s10 h10. holds_bind si_window_length _ IsValid (λ v11 s11 h11. holds_bind (from_to 5 0 31) _ IsValid (λ v12 s12 h12.
    let band = (within 6 0 63 s8 v8 h8).below in
    holds_done _ IsValid (record {
      access = access_holds s5 v5 h5;
      selection = selection_holds s6 v6 h6;
      p_max = present_holds v2 p_max IsPower power_holds s7 v7 h7;
      band = (omega arith, omega (arith, band));
      messages = schedule_holds s9 v9 h9;
      tdd = present_holds v3 tdd_config IsTddConfig tdd_holds s10 v10 h10;
      window = (within 3 0 6 s11 v11 h11).below;
      tag = (within 5 0 31 s12 v12 h12).below;
    }))))))))))))))
